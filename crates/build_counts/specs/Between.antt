-- The events between two places of a list, and what the events from a place on say of the next segment: a sound list's
-- events stand segment by segment. Laws: proofs/BetweenLaws.antt, proofs/RunLaws.antt. Assumes nothing.
use Rattle.std.specs.Prelude.{ℕ, suc, ◌/◌, ◌%◌, Bool, true, false, ◌||◌, List, [], ◌∷◌, eqb, drop}
use Rattle.eit.specs.Pools.{Pools}
use Rattle.eit.specs.Records.{records_in}
use Rattle.eit.specs.Events.{Event, events_in}
use Rattle.sections.specs.Segment.{segment_index}
use Rattle.schedule.specs.Extent.{table_segments}

-- the events from place `from` up to place `end`
unfoldable pub events_between : Pools → List ℕ → ℕ → ℕ → List Event
events_between pools numbers from end = events_in pools (drop from (records_in end numbers))

-- how many of the first events start in a segment
abbrev pub leading : ℕ → List Event → ℕ
leading index [] = 0
leading index (e ∷ es) = elim (eqb (segment_index e.start) index) [ true ↦ suc (leading index es) | false ↦ 0 ]

-- whether a segment is inside the range (01, "Build, Read": "Each table ends with its last segment that has events, or
-- with section 0 if it has none"), by the events that start in it or later
abbrev pub is_next_inside : ℕ → List Event → Bool
is_next_inside index [] = eqb index 0
is_next_inside index (e ∷ es) =
    eqb (index % table_segments) 0 || eqb (segment_index e.start / table_segments) (index / table_segments)
