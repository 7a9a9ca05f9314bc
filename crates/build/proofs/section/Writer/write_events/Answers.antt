-- `Writer::write_events` meets its contract: a turn writes the event of record i (`next_written`). Assumes
-- nothing.
use Rattle.std.proofs.Common.{arith}
use Rattle.sections.proofs.Lengths.{loop_length}
use Rattle.build.specs.Held.{held}
use Rattle.build.proofs.SectionLaws.{events_start, next_fits, next_written, events_written}
use Rattle.build.proofs.section.Writer.write_events.Goals as goal

pub loop-i-init : goal.loop-i-init
loop-i-init c = events_start c.requires

pub overflow_add-offset-in-loop-i : goal.overflow_add-offset-in-loop-i
overflow_add-offset-in-loop-i c =
    omega (arith, next_fits c.loop-i.invariant c.loop-i-test.true c.record_at-r.ensures c.choose-chain.ensures)

pub loop-i-preserved : goal.loop-i-preserved
loop-i-preserved c =
    next_written c.loop-i.invariant c.loop-i-test.true c.record_at-r.ensures c.choose-chain.ensures
    c.write_event.ensures

pub returns : goal.returns
returns c =
    let a = c.args in
    let all = held a.self.now a.from a.to in
    let (written, ends) = events_written c.loop-i.invariant (omega arith) in
    (written, omega (arith, ends, loop_length a.self.now.base_day all))
