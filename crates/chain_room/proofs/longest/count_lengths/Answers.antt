-- `count_lengths` meets its contract: before each turn all lengths below `low` fit, and none does from `high` on.
-- Assumes nothing.
use Rattle.std.proofs.Common.{◌+◌, ◌-◌, ◌/◌, arith}
use Rattle.chain_room.proofs.TrialLaws.{halving_held, halving_not, halving_end}
use Rattle.chain_room.proofs.longest.count_lengths.Goals as goal

pub loop-low-preserved-then-is_some : goal.loop-low-preserved-then-is_some
loop-low-preserved-then-is_some c =
    let turn = c.loop-low in
    halving_held _ _ _ turn.invariant (turn.low + (turn.high - turn.low) / 2) (cc)
    (omega (arith, c.loop-low-test.true)) c.if-is_some.true

pub loop-low-preserved : goal.loop-low-preserved
loop-low-preserved c =
    let turn = c.loop-low in
    halving_not _ _ _ turn.invariant (turn.low + (turn.high - turn.low) / 2) (cc) (omega arith)
    (omega (arith, c.loop-low-test.true)) c.if-is_some.false

pub returns : goal.returns
returns c = halving_end _ _ _ _ c.loop-low.invariant c.loop-low-test.false
