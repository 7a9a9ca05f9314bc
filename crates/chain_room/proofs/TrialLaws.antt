-- A pass over events, one after the other; and the lengths that fit, by halving: below `low` all fit, and from `high`
-- on none does. Assumes nothing.
use mathlib.Core.Path.{◌≡◌, sym, ap, subst, ◌∙◌}
use mathlib.Core.Bool.{Bool, true, false, not}
use mathlib.Core.Logic.{⊎_elim}
use mathlib.Core.List.{List}
use Prim.Native.Nat.{ℕ, zero, suc, ◌+◌, ◌-◌, ◌*◌, ◌≤◌, ◌<◌}
use native.Mathlib.Omega.{arith}
use lib.Dec.{T}
use lib.ListN.{drop}
use Rattle.std.specs.Prelude.{Option, Some, None, is_some}
use Rattle.eit.specs.Pools.{Pools}
use Rattle.eit.specs.Records.{record_size, front_record}
use Rattle.eit.specs.Events.{Event, event_of}
use Rattle.eit.proofs.Test.{test_or}
use Rattle.packing.specs.declared.Filling.{Filling}
use Rattle.packing.specs.OnePass.{begun, added, filled}
use Rattle.packing.proofs.OnePass.{smaller_held, filled_none}
use Rattle.sections.specs.Section.{event_overhead, event_size}
use Rattle.room.specs.ChainRoom.{largest, never_one}
use Rattle.room.proofs.Largest.{largest_last, largest_none}
use Rattle.build_counts.specs.Between.{events_between}
use Rattle.build_counts.proofs.BetweenLaws.{between_more, between_end}
use Rattle.chain_room.specs.Trial.{holds, last_of, longest_between}

-- ---- the pass

pub record FilledSoFar (pools : Pools) (numbers : List ℕ) (from end room : ℕ) (before : Option Filling)
    (filling : Filling) (at : ℕ) : Type 0 where
  pub same : filled event_size room before (events_between pools numbers from end)
      ≡ filled event_size room (Some filling) (events_between pools numbers at end)

pub fill_start : (pools : Pools) (numbers : List ℕ) (from end room : ℕ) {before : Option Filling} {filling : Filling}
    → before ≡ Some filling
    → FilledSoFar pools numbers from end room before filling from
fill_start pools numbers from end room is =
    record { same = ap (λ (f : Option Filling). filled event_size room f (events_between pools numbers from end)) is }

module _ {pools : Pools} {numbers : List ℕ} {from end room : ℕ} {before : Option Filling} {filling : Filling} {at : ℕ}
    (so_far : FilledSoFar pools numbers from end room before filling at) where
  pub fill_end : end ≤ at → Some filling ≡ filled event_size room before (events_between pools numbers from end)
  fill_end behind =
      sym (so_far.same ∙ ap (filled event_size room (Some filling)) (between_end pools numbers at end behind))

  module _ (inside : at < end) {size : ℕ}
      (is_size : size ≡ event_size (event_of pools (front_record (drop (at * record_size) numbers))))
      {next : Option Filling} (is_next : next ≡ added room filling size) where
    turn : filled event_size room before (events_between pools numbers from end)
        ≡ filled event_size room next (events_between pools numbers (at + 1) end)
    turn =
        let one : suc at ≡ at + 1 = omega arith in
        so_far.same
        ∙ ap (filled event_size room (Some filling)) (between_more pools numbers at end inside)
        ∙ ap (λ (f : Option Filling). filled event_size room f (events_between pools numbers (suc at) end))
        (sym (is_next ∙ ap (added room filling) is_size))
        ∙ ap (λ (i : ℕ). filled event_size room next (events_between pools numbers i end)) one

    pub fill_more : {filled_next : Filling} → next ≡ Some filled_next
        → FilledSoFar pools numbers from end room before filled_next (at + 1)
    fill_more held =
        record {
          same =
              turn
              ∙ ap (λ (f : Option Filling). filled event_size room f (events_between pools numbers (at + 1) end)) held;
        }

    pub fill_none : next ≡ None → None ≡ filled event_size room before (events_between pools numbers from end)
    fill_none not_held =
        sym (turn
        ∙ ap (λ (f : Option Filling). filled event_size room f (events_between pools numbers (at + 1) end)) not_held
        ∙ filled_none event_size room (events_between pools numbers (at + 1) end))

-- ---- halving

-- a shorter chain is held where a longer one is
shorter_holds : (room : ℕ) (before : Filling) (behind : List Event) (m n : ℕ) → m ≤ n
    → T (holds room (Some before) behind n)
    → T (holds room (Some before) behind m)
shorter_holds room before behind m n less =
    smaller_held event_size room (Some before) (event_overhead + m) (event_overhead + n) behind (omega arith)

module _ (room : ℕ) (before : Filling) (behind : List Event) where
  abbrev passes : ℕ → Bool
  passes n = holds room (Some before) behind n

  abbrev most : ℕ
  most = room - event_overhead

  pub record Halving (low high : ℕ) : Type 0 where
    pub order : low ≤ high
    pub few : high ≤ most + 1
    pub below : (n : ℕ) → n < low → T (passes n)
    pub above : (n : ℕ) → high ≤ n → n ≤ most → T (not (passes n))

  pub halving_start : {high : ℕ} → high ≡ most + 1 → Halving 0 high
  halving_start all =
      record {
        order = omega arith;
        few = omega arith;
        below = λ n less. absurd (omega arith);
        above = λ n least few. absurd (omega arith);
      }

  -- a trial of a length
  module _ {low high : ℕ} (h : Halving low high) (size : ℕ) {held : Bool} (shows : held ≡ passes size) where
    pub halving_held : size < high → held ≡ true → Halving (size + 1) high
    halving_held inside is =
        record {
          order = omega arith;
          few = h.few;
          below = λ n less. shorter_holds room before behind n size (omega arith) (subst T (sym is ∙ shows) tt);
          above = h.above;
        }

    pub halving_not : low ≤ size → size < high → held ≡ false → Halving low size
    halving_not least inside fails =
        record {
          order = least;
          few = omega (arith, h.few);
          below = h.below;
          above = λ n more few.
              ⊎_elim
              (λ longer. absurd (subst T (sym shows ∙ fails) (shorter_holds room before behind size n more longer)))
              (λ not-held. not-held) (test_or (passes n));
        }

  pub halving_end : (low : ℕ) {high : ℕ} → Halving low high → high ≤ low → largest passes most ≡ last_of low
  halving_end zero h met = largest_none passes most (λ m few. h.above m (omega arith) few)
  halving_end (suc n) h met =
      largest_last passes most n
      (record {
        within = omega (arith, h.order, h.few);
        itself = h.below n (omega arith);
        behind = λ k more few. h.above k (omega arith) few;
      })

-- ---- the length

module _ (room : ℕ) (xs ys : List Event) where
  -- the events before the place are packed, or one of them is not held, and then no length fits
  pub longest_is : {before : Filling} → Some before ≡ filled event_size room (Some (begun room 7)) xs
      → largest (holds room (Some before) ys) (room - event_overhead) ≡ longest_between room xs ys
  longest_is is = ap (λ (f : Option Filling). largest (holds room f ys) (room - event_overhead)) is

  pub longest_none : None ≡ filled event_size room (Some (begun room 7)) xs
      → None ≡ never_one (longest_between room xs ys)
  longest_none is =
      let none_held : (n : ℕ) → holds room None ys n ≡ false =
      λ n. ap (λ (f : Option Filling). is_some f) (filled_none event_size room ys) in
      ap never_one
      (sym (largest_none (holds room None ys) (room - event_overhead)
      (λ n few. subst (λ (b : Bool). T (not b)) (sym (none_held n)) tt))
      ∙ ap (λ (f : Option Filling). largest (holds room f ys) (room - event_overhead)) is)
