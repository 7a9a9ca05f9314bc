-- The records that start before a start, one after the other, and the first that does not. Assumes nothing.
use mathlib.Core.Path.{◌≡◌, refl, sym, ap, ◌∙◌}
use mathlib.Core.Bool.{false}
use mathlib.Core.Logic.{⊎_elim}
use mathlib.Core.List.{List, ◌∷◌}
use Prim.Native.Nat.{ℕ, suc, ◌+◌, ◌*◌, ◌≤◌, ◌<◌, max}
use native.Mathlib.Omega.{arith}
use borrow.Author.Tests.{lt-ltb, le-ltb}
use lib.Dec.{eqb}
use lib.ListN.{drop}
use Rattle.eit.specs.Pools.{Pools}
use Rattle.eit.specs.Records.{record_size, front_record}
use Rattle.eit.specs.Events.{Event, event_of}
use Rattle.eit.specs.declared.Record.{Record}
use Rattle.eit.proofs.Test.{le_or_lt}
use Rattle.build_counts.specs.Between.{events_between}
use Rattle.build_counts.proofs.BetweenLaws.{between_more, between_end}
use Rattle.chain_room.specs.Places.{earlier, starts_first}

-- one event more
module _ (start : ℕ) (e : Event) (es : List Event) where
  pub earlier_more : e.start < start → earlier start (e ∷ es) ≡ suc (earlier start es)
  earlier_more early = rw (earlier, lt-ltb e.start start early)

  pub earlier_none : start ≤ e.start → earlier start (e ∷ es) ≡ 0
  earlier_none late = rw (earlier, le-ltb e.start start late)

-- ---- the pass

-- before a turn: all records so far start before it
pub record EarlierSoFar (numbers : List ℕ) (from end start at : ℕ) : Type 0 where
  pub same : (pools : Pools)
      → from + earlier start (events_between pools numbers from end)
      ≡ at + earlier start (events_between pools numbers at end)

pub earlier_start : (numbers : List ℕ) (from end start : ℕ) → EarlierSoFar numbers from end start from
earlier_start numbers from end start = record { same = λ pools. refl }

module _ {numbers : List ℕ} {from end start at : ℕ} (so_far : EarlierSoFar numbers from end start at) where
  pub earlier_end : end ≤ at → (from ≤ end → at ≤ end) → (pools : Pools)
      → max from end ≡ from + earlier start (events_between pools numbers from end)
  earlier_end behind within pools =
      let none_left : earlier start (events_between pools numbers at end) ≡ 0 =
      ap (earlier start) (between_end pools numbers at end behind) in
      ⊎_elim (λ order. omega (arith, so_far.same pools, within order))
      (λ empty.
      omega (arith, ap (earlier start) (between_end pools numbers from end (omega arith)))) (le_or_lt from end)

  module _ (inside : at < end) {r : Record} (read : r ≡ front_record (drop (at * record_size) numbers)) where
    next : (pools : Pools)
        → events_between pools numbers at end ≡ event_of pools r ∷ events_between pools numbers (suc at) end
    next pools =
        between_more pools numbers at end inside
        ∙ ap (λ (q : Record). event_of pools q ∷ events_between pools numbers (suc at) end) (sym read)

    pub earlier_stop : start ≤ r.start → (pools : Pools)
        → at ≡ from + earlier start (events_between pools numbers from end)
    earlier_stop late pools =
        let none_left : earlier start (events_between pools numbers at end) ≡ 0 =
        ap (earlier start) (next pools)
        ∙ earlier_none start (event_of pools r) (events_between pools numbers (suc at) end) late in
        omega (arith, so_far.same pools)

    pub earlier_turn : r.start < start → EarlierSoFar numbers from end start (at + 1)
    earlier_turn early =
        let one : suc at ≡ at + 1 = omega arith in
        record {
          same = λ pools.
              let rest : List Event = events_between pools numbers (suc at) end in
              let more : earlier start (events_between pools numbers at end) ≡ suc (earlier start rest) =
              ap (earlier start) (next pools) ∙ earlier_more start (event_of pools r) rest early in
              let moved : suc at + earlier start rest
              ≡ at + 1 + earlier start (events_between pools numbers (at + 1) end) =
              ap (λ (i : ℕ). i + earlier start (events_between pools numbers i end)) one in
              omega (arith, so_far.same pools);
        }

-- the pass
pub ruleset passes = (earlier_start, earlier_end, earlier_stop, earlier_turn)

-- ---- the record at a place

module _ (numbers : List ℕ) (place end start : ℕ) where
  pub first_none : end ≤ place → (pools : Pools) → false ≡ starts_first start (events_between pools numbers place end)
  first_none behind pools = sym (ap (starts_first start) (between_end pools numbers place end behind))

  pub first_is : place < end → {r : Record} → r ≡ front_record (drop (place * record_size) numbers) → (pools : Pools)
      → eqb r.start start ≡ starts_first start (events_between pools numbers place end)
  first_is inside read pools =
      ap (λ (q : Record). eqb q.start start) read
      ∙ sym (ap (starts_first start) (between_more pools numbers place end inside))
