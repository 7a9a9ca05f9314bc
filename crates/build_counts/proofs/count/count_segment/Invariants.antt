-- `count_segment`: before each turn what is counted so far, with what the rest needs, is the count, and there is a
-- rest.
use Rattle.std.proofs.Common.{◌<◌}
use Rattle.build_counts.proofs.PackLaws.{PackedSoFar}
use Rattle.build_counts.proofs.count.count_segment.Given as goal

abbrev pub invariant-loop-sections : goal.invariant-loop-sections
invariant-loop-sections l =
    PackedSoFar l.pools l.list l.from l.end l.room l.sections l.bytes l.at × (l.at < l.end)
