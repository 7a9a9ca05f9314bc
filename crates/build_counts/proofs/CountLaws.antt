-- What is counted of a segment is its entry in Plan, and the bytes of its sections in Build's file. Assumes nothing.
use mathlib.Core.Path.{◌≡◌, sym, ap, ◌∙◌}
use mathlib.Core.Bool.{Bool, true, false, not}
use mathlib.Core.Logic.{⊎_elim}
use mathlib.Core.List.{List, [], ◌∷◌, flatten}
use Prim.Native.Nat.{ℕ, suc, ◌+◌, ◌-◌, ◌*◌, ◌≤◌, ◌<◌}
use native.Mathlib.Numerals.{add-one}
use native.Mathlib.Omega.{arith}
use borrow.Author.Tests.{eq-eqb, ne_eqb}
use lib.Dec.{T, eqb}
use lib.ListN.{length}
use Rattle.eit.specs.Sizes.{section_overhead, room}
use Rattle.eit.specs.declared.Sizes.{Sizes}
use Rattle.eit.specs.Identity.{zero_identity}
use Rattle.eit.specs.Events.{Event, rising}
use Rattle.eit.proofs.Test.{true_is, false_is, test_or}
use Rattle.packing.specs.Greedy.{AllFit, greedy, unpackable}
use Rattle.packing.proofs.Greedy.{greedy_count, greedy_fits}
use Rattle.sections.specs.Section.{Section, event_size, section_sizes}
use Rattle.sections.specs.Count.{segment_events}
use Rattle.sections.proofs.Lengths.{sizes_append}
use Rattle.sections.specs.Each.{each}
use Rattle.schedule.specs.Extent.{is_inside}
use Rattle.schedule.specs.SectionsOf.{is_unpackable, packed, sections_of_segment}
use Rattle.schedule.specs.Plan.{section_count}
use Rattle.sections.proofs.Each.{joined_more}
use Rattle.schedule.proofs.Parts.{sizes_same, parts_few}
use Rattle.schedule.proofs.Packable.{test_is}
use Rattle.schedule.proofs.Best.{part_parts, parts_are}
use Rattle.schedule.proofs.Plan.{count_outside, count_inside, count_unpackable}
use Rattle.schedule.proofs.ByIndex.{inside_part, part_inside, part_outside}
use Rattle.build_counts.specs.Counting.{packed_sizes, packed_of}
use Rattle.build_counts.proofs.NeedLaws.{parts_sizes}

-- ---- one segment

-- the bytes of a segment's sections
abbrev pub segment_bytes : Sizes → List Event → ℕ → ℕ
segment_bytes sizes es index = section_sizes (inside_part sizes zero_identity es index)

-- and of those of the segments from `index` on
abbrev pub bytes_from : Sizes → List Event → ℕ → ℕ
bytes_from sizes es index = section_sizes (flatten (each (inside_part sizes zero_identity es) index (512 - index)))

pub bytes_from_holds : (sizes : Sizes) (es : List Event) (index : ℕ) → index < 512
    → bytes_from sizes es index ≡ segment_bytes sizes es index + bytes_from sizes es (index + 1)
bytes_from_holds sizes es index few =
    let left : 512 - index ≡ suc (512 - (index + 1)) = omega arith in
    let f : ℕ → List Section = inside_part sizes zero_identity es in
    ap (λ (n : ℕ). section_sizes (flatten (each f index n))) left
    ∙ ap section_sizes (joined_more f index (512 - (index + 1)))
    ∙ sizes_append (f index) (flatten (each f (suc index) (512 - (index + 1))))
    ∙ ap (λ (i : ℕ). section_sizes (f index) + section_sizes (flatten (each f i (512 - (index + 1)))))
    (sym (add-one index))

pub bytes_end : (sizes : Sizes) (es : List Event) (index : ℕ) → 512 - index ≡ 0 → bytes_from sizes es index ≡ 0
unfolding each flatten
bytes_end sizes es index ends = rw (bytes_from, ends)

-- a segment has at most eight sections of at most 18 bytes around the room
parts_small : (bytes : ℕ) (ps : List (List Event)) → bytes < 0x1_0000 → AllFit event_size bytes ps
    → packed_sizes ps ≤ length ps * (section_overhead + 0xFFFF)
parts_small bytes [] narrow fit = omega arith
parts_small bytes (p ∷ ps) narrow fit = omega (arith, fit.0, sizes_same p, parts_small bytes ps narrow fit.1)

pub packed_small : (bytes : ℕ) (es : List Event) → bytes < 0x1_0000
    → packed_sizes (packed bytes es) ≤ 8 * (section_overhead + 0xFFFF)
unfolding packed
packed_small bytes [] narrow = omega arith
packed_small bytes (e ∷ es) narrow =
    let parts : List (List Event) = greedy event_size bytes 8 (e ∷ es) in
    omega (
      arith,
      parts_small bytes parts narrow (greedy_fits event_size bytes 8 (e ∷ es)),
      greedy_count event_size bytes 8 (e ∷ es),
    )

module _ (sizes : Sizes) (es : List Event) (rises : T (rising es)) (index : ℕ) (inside : T (is_inside es index)) where
  -- what is counted of a segment inside the range: its entry in Plan, 255 exactly if it is unpackable, and its bytes
  pub packed_count : (packed_of (room sizes) (segment_events index es)).sections ≡ section_count sizes es index
  packed_count =
      let xs : List Event = segment_events index es in
      let test : Bool = unpackable event_size (room sizes) 8 xs in
      let counted : Bool → ℕ = λ b. elim b [ true ↦ 255 | false ↦ length (packed (room sizes) xs) ] in
      let same : is_unpackable sizes es index ≡ test = test_is sizes es index in
      ⊎_elim
      (λ fails.
      ap counted (sym same ∙ true_is (is_unpackable sizes es index) fails)
      ∙ sym (count_unpackable sizes es index rises fails))
      (λ fits.
      ap counted (sym same ∙ false_is (is_unpackable sizes es index) fits)
      ∙ sym (count_inside sizes es index inside fits
      ∙ ap (λ (ps : List (List Event)). length ps) (parts_are sizes es index)))
      (test_or (is_unpackable sizes es index))

  pub unpackable_is : is_unpackable sizes es index ≡ eqb (section_count sizes es index) 255
  unpackable_is =
      ⊎_elim
      (λ fails. true_is (is_unpackable sizes es index) fails
      ∙ sym (eq-eqb _ 255 (count_unpackable sizes es index rises fails)))
      (λ fits.
      let few : section_count sizes es index ≡ 255 → ⊥ =
      λ e. omega (arith, count_inside sizes es index inside fits, parts_few sizes es index) in
      false_is (is_unpackable sizes es index) fits ∙ sym (ne_eqb _ 255 few))
      (test_or (is_unpackable sizes es index))

  pub packed_bytes : (packed_of (room sizes) (segment_events index es)).bytes ≡ segment_bytes sizes es index
  packed_bytes =
      sym
      (ap section_sizes (part_inside sizes zero_identity es index inside)
      ∙ parts_sizes (sections_of_segment sizes zero_identity es index)
      ∙ ap packed_sizes (part_parts sizes zero_identity es index ∙ parts_are sizes es index))

-- outside the range there is nothing to count
module _ (sizes : Sizes) (es : List Event) (rises : T (rising es)) (index : ℕ)
    (outside : T (not (is_inside es index))) where
  pub outside_packable : T (not (is_unpackable sizes es index))
  outside_packable =
      ⊎_elim
      (λ fails. absurd
      (omega (arith, count_unpackable sizes es index rises fails, count_outside sizes es index outside)))
      (λ fits. fits)
      (test_or (is_unpackable sizes es index))

  pub bytes_outside : segment_bytes sizes es index ≡ 0
  bytes_outside = ap section_sizes (part_outside sizes zero_identity es index outside)

-- a segment's entry in Plan is 255 exactly if it is unpackable
pub full_is : (sizes : Sizes) (es : List Event) → T (rising es) → (index : ℕ)
    → is_unpackable sizes es index ≡ eqb (section_count sizes es index) 255
full_is sizes es rises index =
    ⊎_elim
    (λ inside. unpackable_is sizes es rises index inside)
    (λ outside.
    false_is (is_unpackable sizes es index) (outside_packable sizes es rises index outside)
    ∙ sym (ne_eqb _ 255 (λ e. omega (arith, count_outside sizes es index outside))))
    (test_or (is_inside es index))
