-- Plan's counts, Build's file and the lowest unpackable segment in one row over the 512 segment indices, where the
-- definitions go table by table or stop at the last event: rows of tables are one row, and outside the range there are
-- no sections. By the laws of numbers in a row. Assumes nothing.
use mathlib.Core.Path.{◌≡◌, sym, ap, ◌∙◌}
use mathlib.Core.Bool.{true, false, not}
use mathlib.Core.Logic.{⊎_elim}
use mathlib.Core.List.{List, [], flatten}
use Prim.Native.Nat.{ℕ, suc, ◌+◌, ◌-◌, ◌*◌, ◌/◌, ◌≤◌, ◌<◌}
use native.Mathlib.Omega.{arith}
use lib.Dec.{T, not_T}
use Rattle.eit.specs.declared.Sizes.{Sizes}
use Rattle.eit.specs.Limits.{window_seconds}
use Rattle.eit.specs.Events.{Event}
use Rattle.eit.specs.declared.Identity.{Identity}
use Rattle.eit.proofs.Test.{true_is, false_is}
use Rattle.sections.specs.Section.{Section}
use Rattle.sections.specs.Every.{Every}
use Rattle.sections.specs.Each.{each, lowest}
use Rattle.schedule.specs.Extent.{last_table, last_segment, is_inside}
use Rattle.schedule.specs.SectionsOf.{is_unpackable, lowest_unpackable, sections_of_segment, sections_of_table}
use Rattle.schedule.specs.SectionsOf.{sections_of}
use Rattle.schedule.specs.Plan.{tabled}
use Rattle.sections.proofs.Each.{each_same, each_within, each_shift, each_rows}
use Rattle.sections.proofs.Each.{joined_none, joined_front, joined_rows, no_lowest, lowest_is}
use Rattle.schedule.proofs.SoundEvents.{SoundStarts}
use Rattle.schedule.proofs.Extent.{segment_in_table, tables_few, is_inside_holds, inside_is}
use Rattle.schedule.proofs.Held.{table_is, file_is}
use Rattle.schedule.proofs.Packable.{packable_or}

-- the sections of a segment inside the range; outside none
abbrev pub inside_part : Sizes → Identity → List Event → ℕ → List Section
inside_part sizes identity es index =
    elim (is_inside es index) [ true ↦ sections_of_segment sizes identity es index | false ↦ [] ]

-- ---- Plan's counts

-- the tables one behind the other
pub flat_plan : (count : ℕ → ℕ) → flatten (tabled count) ≡ each count 0 512
unfolding tabled
flat_plan count =
    let row : ℕ → List ℕ = λ (table : ℕ). each (λ (segment : ℕ). count (table * 32 + segment)) 0 32 in
    let same : (table : ℕ) → row table ≡ each count (table * 32) 32 =
    λ table.
    let first : table * 32 + 0 ≡ table * 32 = omega arith in
    each_shift count (table * 32) 0 32 ∙ ap (λ (k : ℕ). each count k 32) first in
    ap flatten (each_same row (λ (table : ℕ). each count (table * 32) 32) 0 16 same) ∙ each_rows count 32 0 16

-- ---- Build's file

module _ (sizes : Sizes) (identity : Identity) (es : List Event) where
  pub part_inside : (index : ℕ) → T (is_inside es index)
      → inside_part sizes identity es index ≡ sections_of_segment sizes identity es index
  part_inside index inside = rw (inside_part, true_is (is_inside es index) inside)

  pub part_outside : (index : ℕ) → T (not (is_inside es index)) → inside_part sizes identity es index ≡ []
  part_outside index outside = rw (inside_part, false_is (is_inside es index) outside)

  -- the sections of a table's thirty-two segments, as far as they are inside
  abbrev row_of : ℕ → List Section
  row_of table = flatten (each (inside_part sizes identity es) (table * 32) 32)

  -- a table up to the last: its segments up to its last one are inside, those behind it are not
  table_row : (table : ℕ) → table ≤ last_table es → sections_of_table sizes identity es table ≡ row_of table
  table_row table early =
      let first : ℕ = table * 32 in
      let last : ℕ = last_segment es table in
      let n : ℕ = suc (last - first) in
      let own : last / 32 ≡ table = segment_in_table es table in
      let within : (k : ℕ) → first ≤ k → k < first + n
      → inside_part sizes identity es k ≡ sections_of_segment sizes identity es k =
      λ k low high.
      let here : k / 32 ≡ table = omega arith in
      part_inside k (is_inside_holds es k (omega arith) (rw here (omega arith))) in
      let behind : (k : ℕ) → first + n ≤ k → k < first + 32 → inside_part sizes identity es k ≡ [] =
      λ k low high.
      let here : k / 32 ≡ table = omega arith in
      part_outside k (not_T (is_inside es k) (λ inside.
      let most : k ≤ last = rw here at (inside_is es k inside).1 in
      omega arith)) in
      table_is sizes identity es table
      ∙ ap flatten
      (sym (each_within (inside_part sizes identity es) (sections_of_segment sizes identity es) first n within))
      ∙ joined_front (inside_part sizes identity es) first n 32 (omega arith) behind

  -- a table behind the last: none is inside
  table_beyond : (table : ℕ) → last_table es < table → row_of table ≡ []
  table_beyond table late =
      joined_none (inside_part sizes identity es) (table * 32) 32 (λ k low high.
      part_outside k (not_T (is_inside es k) (λ inside. omega (arith, (inside_is es k inside).0))))

  -- there are at most sixteen tables
  pub file_by_index : Every (λ (e : Event). e.start < window_seconds) es
      → sections_of sizes identity es ≡ flatten (each (inside_part sizes identity es) 0 512)
  file_by_index starts =
      let n : ℕ = suc (last_table es) in
      let few : n ≤ 16 = tables_few es starts in
      file_is sizes identity es
      ∙ ap flatten
      (each_within (sections_of_table sizes identity es) row_of 0 n (λ table low high. table_row table (omega arith)))
      ∙ joined_front row_of 0 n 16 (omega arith) (λ table low high. table_beyond table (omega arith))
      ∙ joined_rows (inside_part sizes identity es) 32 0 16

-- ---- the lowest unpackable segment

-- behind the last event's segment none is unpackable
pub lowest_by_index : (sizes : Sizes) (es : List Event) → SoundStarts es
    → lowest_unpackable sizes es ≡ lowest (is_unpackable sizes es) 0 512
lowest_by_index sizes es facts =
    ⊎_elim
    (λ (ends, all). ends ∙ sym (no_lowest (is_unpackable sizes es) 0 512 (λ index low high. all index)))
    (λ (index, is, few, fails, before).
    is
    ∙ sym (lowest_is (is_unpackable sizes es) index 0 512 (omega arith) few fails (λ lower low less. before lower less)))
    (packable_or sizes es facts)
