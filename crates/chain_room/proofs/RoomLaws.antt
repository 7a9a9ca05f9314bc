-- The answer for a sound list, by what the places are: the segment's events stand from `from` to `end`, and those
-- before `place` start earlier. Assumes nothing.
use mathlib.Core.Path.{◌≡◌, refl, sym, ap, ap₂, subst, ◌∙◌}
use mathlib.Core.Bool.{Bool, true, false, not, ◌||◌}
use mathlib.Core.Logic.{⊎_elim}
use mathlib.Core.List.{List, [], ◌∷◌}
use Prim.Native.Nat.{ℕ, suc, ◌+◌, ◌*◌, ◌/◌, ◌≤◌, ◌<◌}
use native.Mathlib.Omega.{arith}
use borrow.Author.Tests.{eq-eqb, ne_eqb, lt-ltb, le-ltb}
use lib.Dec.{T, eqb, T_not}
use lib.ListN.{length, take, drop}
use Rattle.std.specs.Prelude.{Option, Some, None}
use Rattle.eit.specs.Sizes.{room}
use Rattle.eit.specs.declared.Sizes.{Sizes}
use Rattle.eit.specs.Limits.{window_seconds}
use Rattle.eit.specs.Pools.{Pools}
use Rattle.eit.specs.Records.{lent_list}
use Rattle.eit.specs.Events.{Event, rising}
use Rattle.eit.specs.Sound.{sound, events_of}
use Rattle.eit.proofs.Test.{le_or_lt, eq_or_not, eq_test, nor_left, nor_right}
use Rattle.eit.proofs.Events.{AllAfter, rising_rest, rising_after}
use Rattle.eit.proofs.Sound.{events_rise}
use Rattle.packing.specs.OnePass.{begun, filled}
use Rattle.sections.specs.Segment.{segment_index}
use Rattle.sections.specs.Section.{event_size}
use Rattle.sections.specs.Count.{segment_events}
use Rattle.sections.proofs.Count.{events_cases}
use Rattle.schedule.proofs.EventsFrom.{events_from, from_more, from_same}
use Rattle.room.specs.OneMore.{is_taken}
use Rattle.room.specs.ChainRoom.{leaves_packable, chain_max, never_one, length_at}
use Rattle.room.proofs.OneMore.{up_to}
use Rattle.room.proofs.Largest.{largest_same}
use Rattle.room.proofs.ChainRoom.{length_taken, length_free, length_past}
use Rattle.room.proofs.OwnSegment.{after_segment, taken_in_segment, leaves_in_segment}
use Rattle.build_counts.specs.Between.{events_between, leading}
use Rattle.build_counts.proofs.BetweenLaws.{between_all, between_length, between_drop, between_front}
use Rattle.build_counts.proofs.WalkLaws.{held_events, events_are, SegmentWalk, walk_events}
use Rattle.chain_room.specs.Places.{earlier, starts_first}
use Rattle.chain_room.specs.Trial.{holds, longest_between}
use Rattle.chain_room.proofs.PlaceLaws.{earlier_more, earlier_none}

-- ---- in a list that rises

-- every event starts after those before it
abbrev Rises : List Event → Type 0
Rises [] = Unit {0}
Rises (e ∷ es) = AllAfter e.start es × Rises es

rises_all : (es : List Event) → T (rising es) → Rises es
rises_all [] t = tt
rises_all (e ∷ es) t = (rising_after e es t, rises_all es (rising_rest e es t))

rises_segment : (index : ℕ) (es : List Event) → Rises es → Rises (segment_events index es)
rises_segment index [] rises = tt
rises_segment index (e ∷ es) rises =
    events_cases index e es Rises
    (λ here. (after_segment e.start index es rises.0, rises_segment index es rises.1))
    (λ elsewhere. rises_segment index es rises.1)

-- the events that do not start before a segment are those from it on
all_from : (index s : ℕ) (es : List Event) → index ≤ segment_index s → AllAfter s es → events_from index es ≡ es
all_from index s [] least after = refl
all_from index s (e ∷ es) least after =
    from_more index e es (omega (arith, after.0))
    ∙ ap (λ (fs : List Event). e ∷ fs) (all_from index s es least after.1)

from_first : (index : ℕ) (es : List Event) → Rises es
    → drop (earlier (index * 10_800) es) es ≡ events_from index es
from_first index [] rises = refl
from_first index (e ∷ es) rises =
    let first : ℕ = index * 10_800 in
    ⊎_elim
    (λ late.
    ap (λ (n : ℕ). drop n (e ∷ es)) (earlier_none first e es late)
    ∙ sym
    (from_more index e es (omega arith)
    ∙ ap (λ (fs : List Event). e ∷ fs) (all_from index e.start es (omega arith) rises.0)))
    (λ early.
    ap (λ (n : ℕ). drop n (e ∷ es)) (earlier_more first e es early)
    ∙ from_first index es rises.1
    ∙ sym (from_same index e es (omega arith)))
    (le_or_lt first e.start)

-- a start that is taken is that of the first event that does not start before it
after_free : (start s : ℕ) (es : List Event) → start ≤ s → AllAfter s es → is_taken start es ≡ false
after_free start s [] early after = refl
after_free start s (e ∷ es) early after =
    ap₂ ◌||◌ (ne_eqb start e.start (λ same. omega (arith, after.0))) (after_free start s es early after.1)

taken_first : (start : ℕ) (es : List Event) → Rises es
    → is_taken start es ≡ starts_first start (drop (earlier start es) es)
taken_first start [] rises = refl
taken_first start (e ∷ es) rises =
    ⊎_elim
    (λ late.
    ap₂ ◌||◌ (eqb_turn start e.start) (after_free start e.start es late rises.0)
    ∙ or_false (eqb e.start start)
    ∙ sym (ap (λ (n : ℕ). starts_first start (drop n (e ∷ es))) (earlier_none start e es late)))
    (λ early.
    ap (λ (b : Bool). b || is_taken start es) (ne_eqb start e.start (λ same. omega arith))
    ∙ taken_first start es rises.1
    ∙ sym (ap (λ (n : ℕ). starts_first start (drop n (e ∷ es))) (earlier_more start e es early)))
    (le_or_lt start e.start)
  where
    or_false : (b : Bool) → (b || false) ≡ b
    or_false true = refl
    or_false false = refl

    eqb_turn : (m n : ℕ) → eqb m n ≡ eqb n m
    eqb_turn m n =
        ⊎_elim (λ same. eq-eqb m n same ∙ sym (eq-eqb n m (sym same)))
        (λ other. ne_eqb m n other ∙ sym (ne_eqb n m (λ same. other (sym same)))) (eq_or_not m n)

-- where it is not taken, as many do not start later as start earlier
free_place : (start : ℕ) (es : List Event) → T (not (is_taken start es)) → up_to start es ≡ earlier start es
free_place start [] free = refl
free_place start (e ∷ es) free =
    let other : T (not (eqb start e.start)) = nor_left (eqb start e.start) (is_taken start es) free in
    let rest : up_to start es ≡ earlier start es =
    free_place start es (nor_right (eqb start e.start) (is_taken start es) free) in
    ⊎_elim
    (λ late.
    let later : start < e.start =
    ⊎_elim (λ most. absurd (T_not (eqb start e.start) other (eq_test start e.start (omega arith))))
    (λ less. less) (le_or_lt e.start start) in
    rw (up_to, lt-ltb start e.start later) (sym (earlier_none start e es late)))
    (λ early.
    rw (up_to, le-ltb start e.start (omega arith)) (ap suc rest ∙ sym (earlier_more start e es early)))
    (le_or_lt start e.start)

earlier_most : (start : ℕ) (es : List Event) → earlier start es ≤ length es
earlier_most start [] = omega arith
earlier_most start (e ∷ es) =
    ⊎_elim (λ late. omega (arith, earlier_none start e es late))
    (λ early. omega (arith, earlier_more start e es early, earlier_most start es)) (le_or_lt start e.start)

-- ---- in a sound list

module _ (sizes : Sizes) (pools : Pools) (numbers : List ℕ) (count start : ℕ)
    (is_sound_holds : T (sound sizes pools (lent_list numbers count))) where
  abbrev es : List Event
  es = held_events pools numbers count

  abbrev index : ℕ
  index = segment_index start

  abbrev seg : List Event
  seg = segment_events index es

  abbrev lent : ℕ → ℕ → List Event
  lent = events_between pools numbers

  rises : T (rising es)
  rises =
      subst (λ (fs : List Event). T (rising fs)) (events_are pools numbers count)
      (events_rise sizes pools (lent_list numbers count) is_sound_holds)

  -- what the length is to be, of the list's events
  abbrev pub answer : Option ℕ
  answer = length_at sizes (events_of pools (lent_list numbers count)) start

  answer_is : (o : Option ℕ) → length_at sizes es start ≡ o → o ≡ answer
  answer_is o is = sym (ap (λ (fs : List Event). length_at sizes fs start) (events_are pools numbers count) ∙ is)

  pub past_answer : window_seconds ≤ start → None ≡ answer
  past_answer past = answer_is None (length_past sizes es start past)

  -- the places
  module _ {from end place : ℕ} (is-from : from ≡ 0 + earlier (start / 10_800 * 10_800) (lent 0 count))
      (is-end : end ≡ from + leading index (lent from count))
      (is-place : place ≡ from + earlier start (lent from end)) where
    walk : SegmentWalk pools numbers count from index
    walk =
        let all : lent 0 count ≡ es = between_all pools numbers count 0 in
        let first : ℕ = index * 10_800 in
        let is : from ≡ earlier first es =
        is-from ∙ zero_plus (earlier first (lent 0 count)) ∙ ap (earlier first) all in
        record {
          inside =
              omega (arith, is-from, earlier_most first (lent 0 count), between_length pools numbers 0 count);
          next =
              between_all pools numbers count from
              ∙ ap (λ (n : ℕ). drop n es) is
              ∙ from_first index es (rises_all es rises);
        }
      where
        zero_plus : (n : ℕ) → 0 + n ≡ n
        zero_plus n = omega arith

    segment_is : lent from end ≡ seg
    segment_is = walk_events pools numbers count rises walk end is-end

    abbrev q : ℕ
    q = earlier start seg

    place_is : place ≡ from + q
    place_is = is-place ∙ ap (λ (fs : List Event). from + earlier start fs) segment_is

    before_is : lent from place ≡ take q seg
    before_is =
        ap (lent from) place_is
        ∙ between_front pools numbers from end q
        (subst (λ (fs : List Event). q ≤ length fs) (sym segment_is) (earlier_most start seg))
        ∙ ap (take q) segment_is

    behind_is : lent place end ≡ drop q seg
    behind_is =
        ap (λ (i : ℕ). lent i end) place_is ∙ sym (between_drop pools numbers from end q) ∙ ap (drop q) segment_is

    taken_is : is_taken start es ≡ starts_first start (lent place end)
    taken_is =
        taken_in_segment start es
        ∙ taken_first start seg (rises_segment index es (rises_all es rises))
        ∙ ap (starts_first start) (sym behind_is)

    module _ {first : Bool} (is_first : first ≡ starts_first start (lent place end)) where
      pub taken_answer : first ≡ true → None ≡ answer
      taken_answer at =
          answer_is None (length_taken sizes es start (subst T (sym (taken_is ∙ sym is_first ∙ at)) tt))

      pub free_answer : first ≡ false → start < window_seconds → {bytes : ℕ} → bytes ≡ room sizes
          → never_one (longest_between bytes (lent from place) (lent place end)) ≡ answer
      free_answer not_at inside {bytes} is-bytes =
          let free : T (not (is_taken start es)) =
          subst (λ (b : Bool). T (not b)) (sym (taken_is ∙ sym is_first ∙ not_at)) tt in
          let place-free : up_to start seg ≡ q =
          free_place start seg (subst (λ (b : Bool). T (not b)) (taken_in_segment start es) free) in
          answer_is (never_one (longest_between bytes (lent from place) (lent place end)))
          (length_free sizes es start free inside
          ∙ ap never_one
          (largest_same (leaves_packable sizes es start)
          (holds (room sizes) (filled event_size (room sizes) (Some (begun (room sizes) 7)) (take q seg)) (drop q seg))
          (λ n.
          leaves_in_segment sizes es start n rises
          ∙ ap (λ (p : ℕ).
          holds (room sizes) (filled event_size (room sizes) (Some (begun (room sizes) 7)) (take p seg)) (drop p seg) n)
          place-free)
          (chain_max sizes)
          ∙ ap₂ (longest_between (room sizes)) (sym before_is) (sym behind_is)
          ∙ ap (λ (m : ℕ). longest_between m (lent from place) (lent place end)) (sym is-bytes)))
