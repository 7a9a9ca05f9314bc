-- The events that start in a segment, one after the other, and the last event of all. Assumes nothing.
use mathlib.Core.Path.{◌≡◌, refl, sym, ap, ◌∙◌}
use mathlib.Core.Logic.{⊎_elim}
use mathlib.Core.List.{List}
use Prim.Native.Nat.{ℕ, zero, suc, ◌+◌, ◌-◌, ◌*◌, ◌/◌, ◌%◌, ◌≤◌, ◌<◌}
use native.Mathlib.Omega.{arith}
use borrow.Author.Tests.{eq-eqb, ne_eqb}
use lib.Dec.{eqb}
use lib.ListN.{drop}
use lib.Seq.{drop-drop}
use Rattle.eit.specs.Pools.{Pools}
use Rattle.eit.specs.Records.{record_size, front_record, records_in}
use Rattle.eit.specs.Events.{events_in}
use Rattle.eit.proofs.Test.{le_or_lt}
use Rattle.sections.specs.Segment.{segment_index}
use Rattle.schedule.specs.Extent.{table_segments, last_index}
use Rattle.build_counts.specs.Between.{events_between, leading, is_next_inside}
use Rattle.build_counts.proofs.BetweenLaws.{between_more, between_end}

-- ---- the pass over a segment's events

-- so far all events start in the segment
pub record LeadSoFar (numbers : List ℕ) (from count index end : ℕ) : Type 0 where
  pub same : (pools : Pools)
      → from + leading index (events_between pools numbers from count)
      ≡ end + leading index (events_between pools numbers end count)

pub lead_start : (numbers : List ℕ) (from count index : ℕ) → LeadSoFar numbers from count index from
lead_start numbers from count index = record { same = λ pools. refl }

module _ {numbers : List ℕ} {from count index end : ℕ} (so_far : LeadSoFar numbers from count index end) where
  -- the place reached is `count`, or `from` if that is behind it
  pub lead_end : count ≤ end → (from ≤ count → end ≤ count) → {last : ℕ} → (from ≤ count → last ≡ count)
      → (count < from → last ≡ from) → (pools : Pools)
      → last ≡ from + leading index (events_between pools numbers from count)
  lead_end behind within there here pools =
      ⊎_elim
      (λ before.
      omega (
        arith,
        there before,
        within before,
        so_far.same pools,
        ap (leading index) (between_end pools numbers end count behind),
      ))
      (λ past. omega (arith, here past, ap (leading index) (between_end pools numbers from count (omega arith))))
      (le_or_lt from count)

  module _ (inside : end < count) (here : ℕ)
      (is-here : here ≡ segment_index (front_record (drop (end * record_size) numbers)).start) where
    pub lead_stop : (here ≡ index → ⊥) → (pools : Pools)
        → end ≡ from + leading index (events_between pools numbers from count)
    lead_stop elsewhere pools =
        let none_left : leading index (events_between pools numbers end count) ≡ 0 =
        ap (leading index) (between_more pools numbers end count inside)
        ∙ rw (leading, ne_eqb _ index (λ e. elsewhere (is-here ∙ e))) refl in
        omega (arith, so_far.same pools)

    pub lead_more : here ≡ index → LeadSoFar numbers from count index (end + 1)
    lead_more same =
        record {
          same =
              λ pools.
              let place : end + 1 ≡ suc end = omega arith in
              let one_more : leading index (events_between pools numbers end count)
              ≡ suc (leading index (events_between pools numbers (suc end) count)) =
              ap (leading index) (between_more pools numbers end count inside)
              ∙ rw (leading, eq-eqb _ index (sym is-here ∙ same)) refl in
              rw place (so_far.same pools ∙ omega arith);
        }

-- ---- whether a segment is inside the range

module _ (numbers : List ℕ) (from count index : ℕ) where
  pub inside_none : count ≤ from → (pools : Pools)
      → eqb index 0 ≡ is_next_inside index (events_between pools numbers from count)
  inside_none behind pools = sym (ap (is_next_inside index) (between_end pools numbers from count behind))

  module _ (before : from < count) where
    pub inside_first : index % table_segments ≡ 0 → (pools : Pools)
        → eqb (index % table_segments) 0 ≡ is_next_inside index (events_between pools numbers from count)
    inside_first first pools =
        eq-eqb _ 0 first
        ∙ sym
        (ap (is_next_inside index) (between_more pools numbers from count before)
        ∙ rw (is_next_inside, eq-eqb _ 0 first) refl)

    pub inside_table : (index % table_segments ≡ 0 → ⊥) → (here : ℕ)
        → here ≡ segment_index (front_record (drop (from * record_size) numbers)).start → (pools : Pools)
        → eqb (here / table_segments) (index / table_segments)
        ≡ is_next_inside index (events_between pools numbers from count)
    inside_table later here is-here pools =
        sym
        (ap (is_next_inside index) (between_more pools numbers from count before)
        ∙ rw (is_next_inside, ne_eqb _ 0 later)
        (ap (λ (i : ℕ). eqb (i / table_segments) (index / table_segments)) (sym is-here)))

-- ---- the last event

last_of : (index : ℕ) (pools : Pools) (n : ℕ) (numbers : List ℕ)
    → last_index index (events_in pools (records_in (suc n) numbers))
    ≡ segment_index (front_record (drop (n * record_size) numbers)).start
unfolding records_in
last_of index pools zero numbers = refl
last_of index pools (suc n) numbers =
    let place : record_size + n * record_size ≡ suc n * record_size = omega arith in
    last_of (segment_index (front_record numbers).start) pools n (drop record_size numbers)
    ∙ ap (λ (d : List ℕ). segment_index (front_record d).start) (drop-drop (n * record_size) record_size numbers)
    ∙ ap (λ (i : ℕ). segment_index (front_record (drop i numbers)).start) place

module _ (numbers : List ℕ) (count : ℕ) where
  pub last_none : count ≡ 0 → (pools : Pools) → 0 ≡ last_index 0 (events_in pools (records_in count numbers))
  unfolding records_in
  last_none empty pools = rw empty refl

  pub last_some : (count ≡ 0 → ⊥) → {last : ℕ}
      → last ≡ segment_index (front_record (drop ((count - 1) * record_size) numbers)).start → (pools : Pools)
      → last ≡ last_index 0 (events_in pools (records_in count numbers))
  last_some some is_last pools =
      let more : count ≡ suc (count - 1) = omega arith in
      is_last
      ∙ sym (last_of 0 pools (count - 1) numbers)
      ∙ ap (λ (n : ℕ). last_index 0 (events_in pools (records_in n numbers))) (sym more)
