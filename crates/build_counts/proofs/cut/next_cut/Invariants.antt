-- `next_cut`: before each turn what is taken so far, with what the rest of the room takes of the rest, is the cut.
use Rattle.build_counts.proofs.CutLaws.{CutSoFar}
use Rattle.build_counts.proofs.cut.next_cut.Given as goal

abbrev pub invariant-loop-to : goal.invariant-loop-to
invariant-loop-to l = CutSoFar l.pools l.list l.from l.end l.room l.to l.bytes
