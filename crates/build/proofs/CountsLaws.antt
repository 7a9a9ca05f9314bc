-- What the section counts of all segments tell before the file is written: which segments are inside the range, and L
-- of each table, which is the number of the last section of the last segment that has sections. Assumes nothing.
use mathlib.Core.Path.{◌≡◌, sym, ap, ◌∙◌}
use mathlib.Core.Bool.{not}
use mathlib.Core.Logic.{inr, ⊎_elim}
use mathlib.Core.List.{List}
use Prim.Native.Nat.{ℕ, ◌+◌, ◌-◌, ◌*◌, ◌/◌, ◌%◌, ◌≤◌, ◌<◌}
use native.Mathlib.Omega.{arith}
use lib.Dec.{T, not_T}
use lib.ListN.{length, get_or, drop, length-drop}
use lib.Seq.{get_or-drop}
use Rattle.eit.specs.declared.Sizes.{Sizes}
use Rattle.eit.specs.Events.{Event}
use Rattle.eit.specs.declared.Identity.{Identity}
use Rattle.eit.proofs.Test.{test_or}
use Rattle.schedule.specs.Extent.{last_table, last_segment, is_inside}
use Rattle.schedule.specs.SectionsOf.{packed_segment, table_last}
use Rattle.schedule.specs.Plan.{section_count}
use Rattle.sections.proofs.Each.{each_length, each_at}
use Rattle.schedule.proofs.Extent.{segment_in_table, is_inside_holds, inside_is}
use Rattle.schedule.proofs.Numbers.{segment_last_is, table_last_is}
use Rattle.schedule.proofs.Parts.{parts_some, parts_few}
use Rattle.schedule.proofs.Plan.{count_outside, count_inside}
use Rattle.build.specs.Rows.{row_last, IsRow}
use Rattle.build.specs.Writing.{Writable}
use Rattle.build.proofs.RowLaws.{counted_is, last_is}

module _ {sizes : Sizes} {identity : Identity} {es : List Event} {counts d : List ℕ}
    (ready : Writable sizes identity es counts d)
  where
    pub counts_length : length counts ≡ 512
    counts_length = ap length ready.counted ∙ each_length (section_count sizes es) 0 512

    pub within : {index : ℕ} → index < length counts → index < 512
    within less = omega (arith, counts_length)

    -- ---- the count of a segment

    module _ (index : ℕ) (few : index < 512) where
      count_is : get_or counts index 0 ≡ section_count sizes es index
      count_is =
          let place : 0 + index ≡ index = omega arith in
          ap (λ (ns : List ℕ). get_or ns index 0) ready.counted
          ∙ each_at (section_count sizes es) 0 0 512 index few
          ∙ ap (section_count sizes es) place

      -- inside the range a segment has its parts, outside none
      pub count_parts : T (is_inside es index) → get_or counts index 0 ≡ length (packed_segment sizes es index)
      count_parts inside = count_is ∙ count_inside sizes es index inside (ready.packs index)

      count_none : T (not (is_inside es index)) → get_or counts index 0 ≡ 0
      count_none outside = count_is ∙ count_outside sizes es index outside

      pub count_few : get_or counts index 0 ≤ 8
      count_few =
          ⊎_elim (λ inside. omega (arith, count_parts inside, parts_few sizes es index))
          (λ outside. omega (arith, count_none outside)) (test_or (is_inside es index))

      -- so the count tells which it is
      pub counted_inside : 0 < get_or counts index 0 → T (is_inside es index)
      counted_inside some =
          ⊎_elim (λ inside. inside) (λ outside. absurd (omega (arith, count_none outside)))
          (test_or (is_inside es index))

      pub counted_outside : get_or counts index 0 ≤ 0 → T (not (is_inside es index))
      counted_outside none =
          not_T (is_inside es index) (λ inside. omega (arith, count_parts inside, parts_some sizes es index))

    -- ---- L of the table whose first segment has this index

    module _ (index : ℕ) (few : index < 512) (opens : index % 32 ≡ 0) (some : 0 < get_or counts index 0) where
      row_at : (k : ℕ) → get_or (drop index counts) k 0 ≡ get_or counts (index + k) 0
      row_at k = get_or-drop index counts k 0

      pub row_is : IsRow (drop index counts)
      row_is =
          let zeroth : get_or counts (index + 0) 0 ≡ get_or counts index 0 =
          ap (λ (k : ℕ). get_or counts k 0) (omega arith) in
          record {
            long = omega (arith, length-drop index counts, counts_length);
            some = omega (arith, row_at 0);
            few = λ k low. omega (arith, row_at k, count_few (index + k) (omega arith));
          }

      -- the table's last segment has sections, and those behind it have none
      pub row_last_holds : row_last (drop index counts) ≡ table_last sizes es (index / 32)
      row_last_holds =
          let table : ℕ = index / 32 in
          let last : ℕ = last_segment es table in
          let s : ℕ = last % 32 in
          let own : last / 32 ≡ table = segment_in_table es table in
          let early : table ≤ last_table es = (inside_is es index (counted_inside index few some)).0 in
          let place : index + s ≡ last = omega arith in
          let ends : T (is_inside es last) = is_inside_holds es last (omega arith) (rw own (omega arith)) in
          let here : get_or (drop index counts) s 0 ≡ length (packed_segment sizes es last) =
          row_at s ∙ ap (λ (k : ℕ). get_or counts k 0) place ∙ count_parts last (omega arith) ends in
          let behind : (j : ℕ) → s < j → j ≤ 31 → get_or (drop index counts) j 0 ≡ 0 =
          λ j later most.
          let same : (index + j) / 32 ≡ table = omega arith in
          let outside : T (not (is_inside es (index + j))) =
          not_T (is_inside es (index + j)) (λ inside.
          let within : index + j ≤ last = rw same at (inside_is es (index + j) inside).1 in
          omega arith) in
          row_at j ∙ count_none (index + j) (omega arith) outside in
          let found : 0 < length (packed_segment sizes es last) = parts_some sizes es last in
          last_is (drop index counts) s
          (counted_is 31 s (drop index counts) (omega arith) (inr (λ none. omega arith)) behind)
          ∙ ap (λ (n : ℕ). 8 * s + (n - 1)) here
          ∙ sym (table_last_is sizes es table ∙ segment_last_is sizes es (last_segment es table))
