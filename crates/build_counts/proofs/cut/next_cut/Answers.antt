-- `next_cut` meets its contract: before each turn what is taken so far, with what the rest of the room takes of the
-- rest, is the cut. Assumes nothing.
use Rattle.std.proofs.Common.{arith}
use Rattle.build_counts.proofs.CutLaws.{pass_end, pass_stop, pass_more}
use Rattle.build_counts.proofs.cut.next_cut.Goals as goal

pub returns-then-room-bytes : goal.returns-then-room-bytes
returns-then-room-bytes c =
    pass_stop c.loop-to.invariant c.loop-to-test.true c.event_size-size.result c.event_size-size.ensures
    c.if-room-bytes.true

pub loop-to-preserved : goal.loop-to-preserved
loop-to-preserved c =
    pass_more c.loop-to.invariant c.loop-to-test.true c.event_size-size.result c.event_size-size.ensures
    c.if-room-bytes.false

pub returns : goal.returns
returns c =
    pass_end c.loop-to.invariant c.loop-to-test.false (λ before. omega arith) (λ before. omega arith)
    (λ behind. omega arith)
