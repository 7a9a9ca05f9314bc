-- `fill::fill_events`: before each turn the records are filled in as `FillSoFar` says.
use Rattle.sections.specs.Decode.{stated_event_size}
use Rattle.sections.specs.Split.{split_by}
use Rattle.read_walk.specs.EventsLeft.{events_left}
use Rattle.read.proofs.FillLaws.{FillSoFar}
use Rattle.read.proofs.fill.fill_events.Given as goal

abbrev pub invariant-loop-bytes : goal.invariant-loop-bytes
invariant-loop-bytes l =
    FillSoFar l.base_day l.from l.place (split_by stated_event_size l.events) l.fn.records l.records l.n l.at
    (events_left l.bytes-iterator)
