-- Build's packing is best: in every segment any other file with the same events has at least as many sections, and its
-- first k hold at most as many events. Where the segment has events by the laws of greedy packing; a segment without
-- events that Build has lies before one with events, and no file skips it. Assumes nothing.
use mathlib.Core.Path.{◌≡◌, refl, sym, ap, subst, ◌∙◌}
use mathlib.Core.Bool.{not}
use mathlib.Core.Logic.{inl, inr, ⊎_elim}
use mathlib.Core.List.{List, [], ◌∷◌}
use Prim.Native.Nat.{ℕ, suc, ◌/◌, ◌≤◌, ◌<◌}
use native.Mathlib.Omega.{arith}
use lib.Dec.{T, T_not}
use lib.ListN.{length, length-map}
use lib.Seq.{take-nil}
use Rattle.eit.specs.Sizes.{section_overhead, room}
use Rattle.eit.specs.declared.Sizes.{Sizes}
use Rattle.eit.specs.Events.{Event}
use Rattle.eit.specs.declared.Identity.{Identity}
use Rattle.eit.proofs.Test.{test_or, le_or_lt}
use Rattle.packing.specs.Greedy.{joined, held, greedy, Packing}
use Rattle.packing.proofs.Greedy.{greedy_fewest, greedy_dominates, greedy_held, reach_length}
use Rattle.sections.specs.Segment.{first_section}
use Rattle.sections.specs.Section.{Section, events_by_section, section_events, event_size}
use Rattle.sections.specs.Rules.{IdentityRules, Rules}
use Rattle.sections.specs.Count.{first_sections, segment_events, segment_sections}
use Rattle.sections.proofs.SegmentBetween.{segment_begins, segment_between}
use Rattle.schedule.specs.Extent.{last_index, last_segment, is_inside}
use Rattle.schedule.specs.SectionsOf.{is_unpackable, packed, packed_segment, numbered_from, sections_of_segment}
use Rattle.schedule.specs.SectionsOf.{sections_of}
use Rattle.schedule.proofs.SoundEvents.{SoundEvents}
use Rattle.schedule.proofs.Extent.{segment_in_table, segment_held_holds, table_held_holds, inside_is, held_inside}
use Rattle.schedule.proofs.Parts.{parts_few}
use Rattle.schedule.proofs.Segments.{sections_inside, sections_outside}
use Rattle.schedule.proofs.BuiltRules.{built_rules}
use Rattle.schedule.proofs.Rival.{joined_parts, segment_packing, first_held}

-- ---- Build's sections in a segment

-- a segment's parts are the greedy ones, and one empty part where there are none
module _ (sizes : Sizes) where
  packed_fewest : (es : List Event) (ps : List (List Event)) → Packing event_size (room sizes) es ps → 0 < length ps
      → length (packed (room sizes) es) ≤ length ps
  unfolding packed
  packed_fewest [] ps packing some = some
  packed_fewest (e ∷ es) ps packing some = greedy_fewest event_size (room sizes) 8 (e ∷ es) ps packing

  packed_held : (k : ℕ) (es : List Event)
      → held k (greedy event_size (room sizes) 8 es) ≤ held k (packed (room sizes) es)
  unfolding packed
  packed_held k [] = omega (arith, ap (λ (ps : List (List Event)). length (joined ps)) (take-nil {A = List Event} k))
  packed_held k (e ∷ es) = omega arith

module _ (sizes : Sizes) (identity : Identity) (es : List Event) where
  numbered_parts : (index S : ℕ) (ps : List (List Event))
      → events_by_section (numbered_from sizes identity es index S ps) ≡ ps
  numbered_parts index S [] = refl
  numbered_parts index S (p ∷ ps) = ap (λ (qs : List (List Event)). p ∷ qs) (numbered_parts index (suc S) ps)

  pub part_parts : (index : ℕ)
      → events_by_section (sections_of_segment sizes identity es index) ≡ packed_segment sizes es index
  unfolding sections_of_segment
  part_parts index = numbered_parts index (first_section index) (packed_segment sizes es index)

pub parts_are : (sizes : Sizes) (es : List Event) (index : ℕ)
    → packed_segment sizes es index ≡ packed (room sizes) (segment_events index es)
unfolding packed_segment
parts_are sizes es index = refl

some_sections : (ss : List Section) → 0 < length (section_events ss) → 0 < length ss
unfolding section_events
some_sections [] some = some
some_sections (s ∷ ss) some = omega arith

-- ---- against any other file

module _ (sizes : Sizes) (es : List Event) (facts : SoundEvents sizes es)
    (other : Identity) (ss : List Section) (rules : Rules sizes other ss) (same : section_events ss ≡ es) where
  rival_packing : (index : ℕ)
      → Packing event_size (room sizes) (segment_events index es) (events_by_section (segment_sections index ss))
  rival_packing index =
      subst (λ (fs : List Event). Packing event_size (room sizes) (segment_events index fs)
      (events_by_section (segment_sections index ss))) same
      (segment_packing sizes other ss rules index)

  -- a segment with events has sections
  rival_holds : (index : ℕ) → 0 < length (segment_events index es) → 0 < length (segment_sections index ss)
  rival_holds index some =
      some_sections (segment_sections index ss)
      (rw (sym (joined_parts (segment_sections index ss)) ∙ (rival_packing index).ordered) some)

  -- and so has every segment that Build's file has
  rival_reaches : (index : ℕ) → T (is_inside es index) → 0 < length (segment_sections index ss)
  rival_reaches index inside =
      let (table, segment) = inside_is es index inside in
      let last : ℕ = last_segment es (index / 32) in
      let own : last / 32 ≡ index / 32 = segment_in_table es (index / 32) in
      ⊎_elim
      (λ first. ⊎_elim
      (λ nothing.
      let zero : index ≡ 0 = omega arith in
      subst (λ (i : ℕ). 0 < length (segment_sections i ss)) (sym zero) (segment_begins sizes other ss rules))
      (λ some. segment_between sizes other ss rules index (last_index 0 es) (rival_holds (last_index 0 es) some)
      (omega arith)
      (inr (omega arith)))
      (table_held_holds es))
      (λ some. segment_between sizes other ss rules index last (rival_holds last some) segment (inl (omega arith)))
      (segment_held_holds es (index / 32))

  module _ (identity : Identity) (index : ℕ) where
    -- in every segment it has at least as many sections
    pub best_fewest : length (segment_sections index (sections_of sizes identity es)) ≤ length (segment_sections index ss)
    best_fewest =
        ⊎_elim
        (λ inside.
        let built : length (segment_sections index (sections_of sizes identity es))
        ≡ length (packed (room sizes) (segment_events index es)) =
        ap length (sections_inside sizes identity es index (parts_few sizes es) inside)
        ∙ sym (length-map (sections_of_segment sizes identity es index) (λ (s : Section). s.events))
        ∙ ap length (part_parts sizes identity es index ∙ parts_are sizes es index) in
        let rival : length (events_by_section (segment_sections index ss)) ≡ length (segment_sections index ss) =
        length-map (segment_sections index ss) (λ (s : Section). s.events) in
        omega (
          arith,
          packed_fewest sizes (segment_events index es) (events_by_section (segment_sections index ss))
              (rival_packing index)
              (omega (arith, rival_reaches index inside)),
        ))
        (λ outside. omega (arith, ap length (sections_outside sizes identity es index (parts_few sizes es) outside)))
        (test_or (is_inside es index))

    -- its first k hold at most as many events
    pub best_most : section_overhead ≤ sizes.section_limit → IdentityRules identity
        → ((i : ℕ) → T (not (is_unpackable sizes es i)))
        → (k : ℕ) → k ≤ 8
        → length (section_events (first_sections index k ss))
        ≤ length (section_events (first_sections index k (sections_of sizes identity es)))
    best_most roomy legal fits k few =
        let xs : List Event = segment_events index es in
        let ps : List (List Event) = greedy event_size (room sizes) 8 xs in
        let B : List Section = sections_of sizes identity es in
        let built : length (section_events (first_sections index k B))
        ≡ held k (events_by_section (segment_sections index B)) =
        first_held sizes identity B (built_rules sizes identity es roomy legal facts fits) index k few in
        let rival : length (section_events (first_sections index k ss)) ≤ held k ps =
        omega (
          arith,
          first_held sizes other ss rules index k few,
          greedy_dominates event_size (room sizes) k 8 xs (events_by_section (segment_sections index ss))
              (rival_packing index) few,
        ) in
        ⊎_elim
        (λ inside.
        let parts : events_by_section (segment_sections index B) ≡ packed (room sizes) xs =
        ap events_by_section (sections_inside sizes identity es index (parts_few sizes es) inside)
        ∙ part_parts sizes identity es index
        ∙ parts_are sizes es index in
        omega (arith, packed_held sizes k xs, ap (held k) parts))
        (λ outside. ⊎_elim
        (λ none-there. omega
        (arith, greedy_held event_size (room sizes) k 8 xs few, reach_length event_size (room sizes) k xs))
        (λ some. absurd (T_not (is_inside es index) outside (held_inside index es facts.rises some)))
        (le_or_lt (length xs) 0))
        (test_or (is_inside es index))
