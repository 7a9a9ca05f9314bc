-- `keep_later` meets its contract: before each turn the records are kept as `KeptSoFar` says, and each record that is
-- looked at stays or leaves. Assumes nothing.
use Rattle.roll.proofs.KeepLaws.{kept_end}
use Rattle.roll.proofs.next_day.keep_later.Goals as goal

pub returns : goal.returns
returns c = kept_end c.loop-i.invariant c.loop-i-test.false
