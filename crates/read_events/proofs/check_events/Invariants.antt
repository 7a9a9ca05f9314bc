-- `check_events`: before each turn the pass stands as `PassSoFar` says, with the events that the reader still has.
use Rattle.sections.specs.Decode.{stated_event_size}
use Rattle.sections.specs.Split.{split_by}
use Rattle.codec_section.specs.HeaderRead.{held_header}
use Rattle.read_walk.specs.EventsLeft.{events_left}
use Rattle.read_events.proofs.EventPassLaws.{PassSoFar}
use Rattle.read_events.proofs.check_events.Given as goal

abbrev pub invariant-loop-bytes : goal.invariant-loop-bytes
invariant-loop-bytes l =
    PassSoFar l.base_day (held_header l.header) (split_by stated_event_size l.events) l.least l.fn.seen l.seen
    l.passed.count l.passed.least (events_left l.bytes-iterator)
