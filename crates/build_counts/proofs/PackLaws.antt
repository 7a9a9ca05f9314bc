-- The sections of a segment, counted one after the other: what is counted so far, with what the rest needs, is the
-- count. Assumes nothing.
use mathlib.Core.Path.{◌≡◌, refl, sym, ap, ap₂, ◌∙◌}
use mathlib.Core.Bool.{true, false}
use mathlib.Core.Logic.{⊎_elim}
use mathlib.Core.List.{List, [], ◌∷◌}
use Prim.Native.Nat.{ℕ, suc, ◌+◌, ◌-◌, ◌*◌, ◌≤◌, ◌<◌}
use native.Mathlib.Omega.{arith}
use borrow.Author.Tests.{le-ltb, lt-ltb}
use lib.ListN.{length, take, drop}
use Rattle.eit.specs.Sizes.{section_overhead}
use Rattle.eit.specs.Pools.{Pools}
use Rattle.eit.specs.Events.{Event}
use Rattle.eit.proofs.Test.{le_or_lt}
use Rattle.packing.specs.Greedy.{fit, reach, greedy, unpackable}
use Rattle.packing.proofs.Greedy.{fit_fits, reach_none, reach_more, reach_length, greedy_none, greedy_end, greedy_more}
use Rattle.sections.specs.Section.{event_size, event_sizes}
use Rattle.schedule.specs.SectionsOf.{packed}
use Rattle.schedule.proofs.Parts.{sizes_same}
use Rattle.build_counts.specs.Between.{events_between}
use Rattle.build_counts.specs.Cutting.{cut_of}
use Rattle.build_counts.specs.Counting.{packed_sizes, packed_of}
use Rattle.build_counts.specs.declared.cut.Cut.{Cut}
use Rattle.build_counts.specs.declared.count.Packed.{Packed}
use Rattle.build_counts.proofs.BetweenLaws.{between_end, between_drop, between_length}

packed_greedy : (room : ℕ) (es : List Event) → 0 < length es → packed room es ≡ greedy event_size room 8 es
unfolding packed
packed_greedy room [] some = absurd (omega arith)
packed_greedy room (e ∷ es) some = refl

-- ---- the pass over a segment's events

abbrev packed_as : ℕ → ℕ → Packed
packed_as sections bytes = record { sections = sections; bytes = bytes }

-- n sections are counted, and the next event stands at `at`
pub record PackedSoFar (pools : Pools) (numbers : List ℕ) (from end room n bytes at : ℕ) : Type 0 where
  pub some : from < end
  pub few : n ≤ 8
  pub narrow : room < 0x1_0000
  pub small : bytes ≤ n * (section_overhead + 0xFFFF)
  pub count : length (greedy event_size room 8 (events_between pools numbers from end))
      ≡ n + length (greedy event_size room (8 - n) (events_between pools numbers at end))
  pub sizes : packed_sizes (greedy event_size room 8 (events_between pools numbers from end))
      ≡ bytes + packed_sizes (greedy event_size room (8 - n) (events_between pools numbers at end))
  pub reached : from + reach event_size room 8 (events_between pools numbers from end)
      ≡ at + reach event_size room (8 - n) (events_between pools numbers at end)

pub pack_start : {pools : Pools} {numbers : List ℕ} {from end room : ℕ} → from < end → room < 0x1_0000
    → PackedSoFar pools numbers from end room 0 0 from
pack_start some narrow =
    record {
      some = some;
      few = omega arith;
      narrow = narrow;
      small = omega arith;
      count = omega arith;
      sizes = omega arith;
      reached = refl;
    }

module _ {pools : Pools} {numbers : List ℕ} {from end room n bytes at : ℕ}
    (so_far : PackedSoFar pools numbers from end room n bytes at) where
  abbrev all : List Event
  all = events_between pools numbers from end

  abbrev rest : List Event
  rest = events_between pools numbers at end

  pub pack_more : n < 8 → at < end → (next : Cut) → next ≡ cut_of at room rest
      → PackedSoFar pools numbers from end room (n + 1) (bytes + (section_overhead + next.bytes)) next.to
  pack_more more inside next is_next_holds =
      let k : ℕ = 8 - (n + 1) in
      let left : 8 - n ≡ suc k = omega arith in
      let m : ℕ = fit event_size room rest in
      let behind : List Event = events_between pools numbers next.to end in
      let to_is : next.to ≡ at + m = ap (λ (c : Cut). c.to) is_next_holds in
      let bytes_are : next.bytes ≡ event_sizes (take m rest) = ap (λ (c : Cut). c.bytes) is_next_holds in
      let fitting : next.bytes ≤ room = omega (arith, fit_fits event_size room rest, sizes_same (take m rest)) in
      let dropped : drop m rest ≡ behind =
      between_drop pools numbers at end m ∙ ap (λ (i : ℕ). events_between pools numbers i end) (sym to_is) in
      let parts : greedy event_size room (8 - n) rest ≡ take m rest ∷ greedy event_size room k behind =
      ap (λ (j : ℕ). greedy event_size room j rest) left
      ∙ greedy_more event_size room k rest (omega (arith, between_length pools numbers at end))
      ∙ ap (λ (es : List Event). take m rest ∷ greedy event_size room k es) dropped in
      let reaches : reach event_size room (8 - n) rest ≡ m + reach event_size room k behind =
      ap (λ (j : ℕ). reach event_size room j rest) left
      ∙ reach_more event_size room k rest
      ∙ ap (λ (es : List Event). m + reach event_size room k es) dropped in
      record {
        some = so_far.some;
        few = omega arith;
        narrow = so_far.narrow;
        small = omega (arith, so_far.small, so_far.narrow);
        count = omega (arith, so_far.count, ap (λ (ps : List (List Event)). length ps) parts);
        sizes = omega (arith, so_far.sizes, ap packed_sizes parts);
        reached = omega (arith, so_far.reached);
      }

  -- nothing is left, or eight sections are counted
  module _ (done : (at < end → n < 8 → ⊥)) where
    none_more : greedy event_size room (8 - n) rest ≡ []
    none_more =
        ⊎_elim
        (λ behind. greedy_end event_size room (8 - n) rest (omega (arith, between_length pools numbers at end)))
        (λ inside.
        let full : 8 - n ≡ 0 = ⊎_elim (λ eight. omega arith) (λ more. absurd (done inside more)) (le_or_lt 8 n) in
        ap (λ (j : ℕ). greedy event_size room j rest) full ∙ greedy_none event_size room rest)
        (le_or_lt end at)

    all_reached : from + reach event_size room 8 all ≡ at
    all_reached =
        ⊎_elim
        (λ behind.
        omega (arith, so_far.reached, reach_length event_size room (8 - n) rest, between_length pools numbers at end))
        (λ inside.
        let full : 8 - n ≡ 0 = ⊎_elim (λ eight. omega arith) (λ more. absurd (done inside more)) (le_or_lt 8 n) in
        let none_left : reach event_size room (8 - n) rest ≡ 0 =
        ap (λ (j : ℕ). reach event_size room j rest) full ∙ reach_none event_size room rest in
        omega (arith, so_far.reached))
        (le_or_lt end at)

    count_is : length (packed room all) ≡ n
    count_is =
        ap (λ (ps : List (List Event)). length ps)
        (packed_greedy room all (omega (arith, so_far.some, between_length pools numbers from end)))
        ∙ so_far.count
        ∙ omega (arith, ap (λ (ps : List (List Event)). length ps) none_more)

    sizes_are : packed_sizes (packed room all) ≡ bytes
    sizes_are =
        ap packed_sizes (packed_greedy room all (omega (arith, so_far.some, between_length pools numbers from end)))
        ∙ so_far.sizes
        ∙ omega (arith, ap packed_sizes none_more)

    pub pack_short : at < end → record { sections = 255; bytes = bytes } ≡ packed_of room all
    pack_short short =
        let left : unpackable event_size room 8 all ≡ true =
        lt-ltb (reach event_size room 8 all) (length all)
        (omega (arith, all_reached, between_length pools numbers from end)) in
        rw (packed_of, left) (ap (λ (b : ℕ). record { sections = 255; bytes = b }) (sym sizes_are))

    pub pack_end : end ≤ at → record { sections = n; bytes = bytes } ≡ packed_of room all
    pack_end whole =
        let none_left : unpackable event_size room 8 all ≡ false =
        le-ltb (reach event_size room 8 all) (length all)
        (omega (arith, all_reached, between_length pools numbers from end)) in
        rw (packed_of, none_left) (ap₂ packed_as (sym count_is) (sym sizes_are))

-- a segment without events is one section
pub pack_none : (pools : Pools) (numbers : List ℕ) {from end : ℕ} (room : ℕ) → end ≤ from
    → record { sections = 1; bytes = section_overhead } ≡ packed_of room (events_between pools numbers from end)
unfolding packed reach
pack_none pools numbers {from} {end} room behind = sym (ap (packed_of room) (between_end pools numbers from end behind))
