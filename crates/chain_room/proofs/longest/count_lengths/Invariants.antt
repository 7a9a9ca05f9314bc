-- `count_lengths`: before each turn all lengths below `low` fit, and none does from `high` on. The measure is the
-- lengths between them.
use Rattle.std.proofs.Common.{◌-◌}
use Rattle.build_counts.specs.Between.{events_between}
use Rattle.chain_room.proofs.TrialLaws.{Halving}
use Rattle.chain_room.proofs.longest.count_lengths.Given as goal

abbrev pub invariant-loop-low : goal.invariant-loop-low
invariant-loop-low l =
    Halving l.room l.before (events_between l.pools l.list l.place l.end) l.low l.high

abbrev pub decreases-loop-low : goal.decreases-loop-low
decreases-loop-low l = l.high - l.low
