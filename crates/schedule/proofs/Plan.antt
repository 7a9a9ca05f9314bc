-- Plan's sixteen tables of thirty-two counts: what each entry is, and that those of a list without an unpackable
-- segment are the sections of Build's file. By the laws of numbers in a row. Assumes nothing.
use mathlib.Core.Path.{◌≡◌, refl, sym, ap, ◌∙◌}
use mathlib.Core.Bool.{not}
use mathlib.Core.Logic.{⊎_elim}
use mathlib.Core.List.{List, []}
use Prim.Native.Nat.{ℕ, ◌+◌, ◌*◌, ◌/◌, ◌%◌, ◌<◌}
use native.Mathlib.Omega.{arith}
use lib.Dec.{T, ltb→lt}
use lib.ListN.{length, get_or, length-map}
use Rattle.eit.specs.Sizes.{room}
use Rattle.eit.specs.declared.Sizes.{Sizes}
use Rattle.eit.specs.Pools.{Pools}
use Rattle.eit.specs.Records.{EventList}
use Rattle.eit.specs.Events.{Event, rising}
use Rattle.eit.specs.Identity.{tables}
use Rattle.eit.specs.Sound.{sound, events_of}
use Rattle.eit.specs.declared.Identity.{Identity}
use Rattle.eit.proofs.Test.{test_or, true_is, false_is}
use Rattle.packing.specs.Greedy.{reach}
use Rattle.sections.specs.Section.{Section, event_size}
use Rattle.sections.specs.Count.{segment_events, segment_sections}
use Rattle.sections.specs.Each.{each}
use Rattle.schedule.specs.Extent.{table_segments, is_inside}
use Rattle.schedule.specs.SectionsOf.{is_unpackable, packed_segment, sections_of_segment, sections_of}
use Rattle.schedule.specs.Plan.{section_count, tabled, plan, planned}
use Rattle.sections.proofs.Each.{each_length, each_at}
use Rattle.schedule.proofs.Extent.{held_inside}
use Rattle.schedule.proofs.Parts.{parts_few}
use Rattle.schedule.proofs.Segments.{sections_inside, sections_outside}
use Rattle.schedule.proofs.Packable.{test_is}
use Rattle.schedule.proofs.Best.{part_parts}

-- ---- the tables

-- the thirty-two of a table
abbrev row : (ℕ → ℕ) → ℕ → List ℕ
row count table = each (λ (segment : ℕ). count (table * table_segments + segment)) 0 table_segments

tabled_is : (count : ℕ → ℕ) → tabled count ≡ each (row count) 0 tables
unfolding tabled
tabled_is count = refl

row_at : (count : ℕ → ℕ) (table : ℕ) → table < 16 → get_or (tabled count) table [] ≡ row count table
row_at count table few =
    let here : 0 + table ≡ table = omega arith in
    ap (λ (rows : List (List ℕ)). get_or rows table []) (tabled_is count)
    ∙ each_at (row count) [] 0 tables table few
    ∙ ap (row count) here

-- sixteen tables of thirty-two
pub tables_length : (count : ℕ → ℕ) → length (tabled count) ≡ 16
tables_length count = ap length (tabled_is count) ∙ each_length (row count) 0 tables

pub table_length : (count : ℕ → ℕ) (table : ℕ) → table < 16 → length (get_or (tabled count) table []) ≡ 32
table_length count table few = ap length (row_at count table few) ∙ each_length _ 0 table_segments

-- the entry of each segment
pub tabled_at : (count : ℕ → ℕ) (index : ℕ) → index < 512 → planned (tabled count) index ≡ count index
tabled_at count index few =
    let place : index / 32 * 32 + (0 + index % 32) ≡ index = omega arith in
    ap (λ (ns : List ℕ). get_or ns (index % 32) 0) (row_at count (index / 32) (omega arith))
    ∙ each_at (λ (segment : ℕ). count (index / 32 * 32 + segment)) 0 0 32 (index % 32) (omega arith)
    ∙ ap count place

module _ (sizes : Sizes) (pools : Pools) (list : EventList) where
  pub plan_sound : T (sound sizes pools list)
      → plan sizes pools list ≡ tabled (section_count sizes (events_of pools list))
  unfolding plan
  plan_sound is = rw (plan, true_is (sound sizes pools list) is)

  -- every entry is 254 if the list is unsound
  pub plan_unsound : T (not (sound sizes pools list)) → plan sizes pools list ≡ tabled (λ (index : ℕ). 254)
  unfolding plan
  plan_unsound unsound = rw (plan, false_is (sound sizes pools list) unsound)

-- ---- the entries

module _ (sizes : Sizes) (es : List Event) (index : ℕ) where
  -- 0 outside a table's range
  pub count_outside : T (not (is_inside es index)) → section_count sizes es index ≡ 0
  unfolding section_count
  count_outside outside = rw (section_count, false_is (is_inside es index) outside)

  -- 255 for an unpackable segment: it has events, so it is inside
  pub count_unpackable : T (rising es) → T (is_unpackable sizes es index) → section_count sizes es index ≡ 255
  unfolding section_count
  count_unpackable rises fails =
      let xs : List Event = segment_events index es in
      let left : reach event_size (room sizes) 8 xs < length xs =
      ltb→lt (reach event_size (room sizes) 8 xs) (length xs) (rw (test_is sizes es index) at fails) in
      rw (
        section_count,
        true_is (is_inside es index) (held_inside index es rises (omega arith)),
        true_is (is_unpackable sizes es index) fails,
      )

  -- else the number of its sections
  pub count_inside : T (is_inside es index) → T (not (is_unpackable sizes es index))
      → section_count sizes es index ≡ length (packed_segment sizes es index)
  unfolding section_count
  count_inside inside fits =
      rw (section_count, true_is (is_inside es index) inside, false_is (is_unpackable sizes es index) fits)

  -- which are those that Build's file has there
  pub count_sections : (identity : Identity) → T (not (is_unpackable sizes es index))
      → section_count sizes es index ≡ length (segment_sections index (sections_of sizes identity es))
  count_sections identity fits =
      ⊎_elim
      (λ inside.
      count_inside inside fits
      ∙ sym (ap length (part_parts sizes identity es index))
      ∙ length-map (sections_of_segment sizes identity es index) (λ (s : Section). s.events)
      ∙ sym (ap length (sections_inside sizes identity es index (parts_few sizes es) inside)))
      (λ outside. count_outside outside
      ∙ sym (ap length (sections_outside sizes identity es index (parts_few sizes es) outside)))
      (test_or (is_inside es index))
