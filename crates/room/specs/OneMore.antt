-- The events of a list with one more among them (02, W-201: "one more event at that start"). Laws: proofs/OneMore.antt.
-- Assumes nothing.
use Rattle.std.specs.Prelude.{ℕ, Bool, true, false, List, [], ◌∷◌, map, ltb, replicate}
use Rattle.eit.specs.Among.{is_among}
use Rattle.eit.specs.Events.{Event}

-- an event among others, in order of start, as PUT inserts its record
abbrev pub inserted : Event → List Event → List Event
inserted e [] = e ∷ []
inserted e (f ∷ es) = elim (ltb e.start f.start) [ true ↦ e ∷ f ∷ es | false ↦ f ∷ inserted e es ]

-- an event at a start whose descriptors take n bytes. Which bytes they are, and what else the event has, does not count
-- in packing
abbrev pub event_of_length : ℕ → ℕ → Event
event_of_length start n =
    record {
      id = 0;
      start = start;
      duration = 1;
      off_air = false;
      free_ca = false;
      chain = replicate n 0;
    }

-- "the start is taken": one of the events has it
abbrev pub is_taken : ℕ → List Event → Bool
is_taken start es = is_among start (map (λ (e : Event). e.start) es)
