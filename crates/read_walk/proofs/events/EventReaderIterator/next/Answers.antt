-- The event at the front is the next piece of what is left (`split_next`), also where it is truncated. Assumes nothing.
use Rattle.std.proofs.Common.{rules, arith}
use Rattle.std.proofs.lemmas.List.{take_min, drop_min}
use Rattle.sections.specs.Decode.{stated_event_size}
use Rattle.sections.proofs.Split.{split_next}
use Rattle.read_walk.proofs.events.EventReaderIterator.next.Goals as goal

pub returns-clause-steps : goal.returns-clause-steps
returns-clause-steps c =
    let bytes = c.args.self.now.rest.now in
    rw (c.split_at.ensures.front, c.split_at.ensures.back, c.min-size.ensures, c.stated_event_size.ensures)
    (rw (take_min, drop_min) (split_next stated_event_size bytes (search rules) (omega arith)))
