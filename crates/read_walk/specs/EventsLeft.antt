-- The events that a reader has still to give (01, "The file of sections"). Assumes nothing.
use Rattle.std.specs.Prelude.{ℕ, List}
use Rattle.sections.specs.Decode.{stated_event_size}
use Rattle.sections.specs.Split.{split_by}
use Rattle.read_walk.specs.declared.events.EventReader.{EventReader}

-- the bytes of each, by the lengths that they state
abbrev pub events_left : EventReader → List (List ℕ)
events_left s = split_by stated_event_size s.rest.now
