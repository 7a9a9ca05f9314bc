-- What one section takes, event by event: the next event is taken if it fits in what is left of the room.
-- Assumes nothing.
use mathlib.Core.Path.{◌≡◌, refl, sym, ap, ap₂, ◌∙◌}
use mathlib.Core.Logic.{⊎_elim}
use mathlib.Core.List.{List, [], ◌∷◌}
use Prim.Native.Nat.{ℕ, suc, ◌+◌, ◌-◌, ◌*◌, ◌≤◌, ◌<◌}
use native.Mathlib.Omega.{arith}
use borrow.Author.Tests.{le-leb, lt-leb}
use lib.ListN.{drop}
use Rattle.eit.specs.Pools.{Pools}
use Rattle.eit.specs.Records.{record_size, front_record}
use Rattle.eit.specs.Events.{Event, event_of}
use Rattle.eit.proofs.Test.{le_or_lt}
use Rattle.packing.specs.Greedy.{fit}
use Rattle.sections.specs.Section.{event_size}
use Rattle.build_counts.specs.Between.{events_between}
use Rattle.build_counts.specs.Cutting.{cut_of}
use Rattle.build_counts.specs.declared.cut.Cut.{Cut}
use Rattle.build_counts.proofs.BetweenLaws.{between_more, between_end}

-- the same, with some bytes taken before
abbrev added : ℕ → Cut → Cut
added bytes c = record { to = c.to; bytes = bytes + c.bytes }

abbrev cut : ℕ → ℕ → Cut
cut to bytes = record { to = to; bytes = bytes }

cut_start : (from room : ℕ) (es : List Event) → cut_of from room es ≡ added 0 (cut_of from (room - 0) es)
cut_start from room es = let all : room - 0 ≡ room = omega arith in rw all (ap₂ cut refl (omega arith))

cut_end : (to room bytes : ℕ) → added bytes (cut_of to room []) ≡ record { to = to; bytes = bytes }
cut_end to room bytes = ap₂ cut (omega arith) (omega arith)

module _ (to room bytes : ℕ) (e : Event) (es : List Event) where
  -- it does not fit
  cut_stop : room < event_size e → added bytes (cut_of to room (e ∷ es)) ≡ record { to = to; bytes = bytes }
  cut_stop large = rw (fit, lt-leb (event_size e) room large) (ap₂ cut (omega arith) (omega arith))

  -- it fits, and may fill the room
  cut_more : event_size e ≤ room
      → added bytes (cut_of to room (e ∷ es)) ≡ added (bytes + event_size e) (cut_of (to + 1) (room - event_size e) es)
  cut_more fits =
      let n : ℕ = fit event_size (room - event_size e) es in
      rw (fit, le-leb (event_size e) room fits) (ap₂ cut (omega arith) (omega arith))

-- ---- the pass over the events between two places

-- what is taken so far, with what the rest of the room takes of the rest, is the cut
pub record CutSoFar (pools : Pools) (numbers : List ℕ) (from end room to bytes : ℕ) : Type 0 where
  pub within : bytes ≤ room
  pub same : cut_of from room (events_between pools numbers from end)
      ≡ added bytes (cut_of to (room - bytes) (events_between pools numbers to end))

pub pass_start : {pools : Pools} {numbers : List ℕ} {from end room : ℕ} → CutSoFar pools numbers from end room from 0
pass_start {pools} {numbers} {from} {end} {room} =
    record { within = omega arith; same = cut_start from room (events_between pools numbers from end) }

module _ {pools : Pools} {numbers : List ℕ} {from end room to bytes : ℕ}
    (so_far : CutSoFar pools numbers from end room to bytes) where
  -- the place reached is `end`, or `from` if that is behind it
  pub pass_end : end ≤ to → (from ≤ end → to ≤ end) → {last : ℕ} → (from ≤ end → last ≡ end)
      → (end < from → last ≡ from)
      → record { to = last; bytes = bytes } ≡ cut_of from room (events_between pools numbers from end)
  pass_end behind within {last} there here =
      let done : record { to = to; bytes = bytes } ≡ cut_of from room (events_between pools numbers from end) =
      sym
      (so_far.same
      ∙ ap (λ (es : List Event). added bytes (cut_of to (room - bytes) es)) (between_end pools numbers to end behind)
      ∙ cut_end to (room - bytes) bytes) in
      let same : last ≡ to =
      ⊎_elim
      (λ before. omega (arith, there before, within before))
      (λ past.
      let none : events_between pools numbers from end ≡ [] = between_end pools numbers from end (omega arith) in
      omega (
        arith,
        here past,
        ap (λ (c : Cut). c.to) done,
        ap (λ (es : List Event). fit event_size room es) none,
      ))
      (le_or_lt from end) in
      rw same done

  module _ (inside : to < end) (size : ℕ)
      (is-size : size ≡ event_size (event_of pools (front_record (drop (to * record_size) numbers)))) where
    abbrev next : Event
    next = event_of pools (front_record (drop (to * record_size) numbers))

    next_decides : cut_of from room (events_between pools numbers from end)
        ≡ added bytes (cut_of to (room - bytes) (next ∷ events_between pools numbers (suc to) end))
    next_decides =
        so_far.same
        ∙ ap (λ (es : List Event). added bytes (cut_of to (room - bytes) es)) (between_more pools numbers to end inside)

    pub pass_stop : room - bytes < size
        → record { to = to; bytes = bytes } ≡ cut_of from room (events_between pools numbers from end)
    pass_stop large =
        let rest : List Event = events_between pools numbers (suc to) end in
        sym (next_decides ∙ cut_stop to (room - bytes) bytes next rest (omega arith))

    pub pass_more : size ≤ room - bytes → CutSoFar pools numbers from end room (to + 1) (bytes + size)
    pass_more fits =
        let rest : List Event = events_between pools numbers (suc to) end in
        let left : room - bytes - event_size next ≡ room - (bytes + size) = omega arith in
        let bytes_are : bytes + event_size next ≡ bytes + size = omega arith in
        let place : suc to ≡ to + 1 = omega arith in
        record {
          within = omega (arith, so_far.within);
          same =
              next_decides
              ∙ cut_more to (room - bytes) bytes next rest (omega arith)
              ∙ ap₂ (λ (b r : ℕ). added b (cut_of (to + 1) r rest)) bytes_are left
              ∙ ap (λ (i : ℕ). added (bytes + size)
              (cut_of (to + 1) (room - (bytes + size)) (events_between pools numbers i end))) place;
        }
