-- `fill`: before each turn the pass over the rest goes on from what is filled so far.
use Rattle.chain_room.proofs.TrialLaws.{FilledSoFar}
use Rattle.chain_room.proofs.filling.fill.Given as goal

abbrev pub invariant-loop-at : goal.invariant-loop-at
invariant-loop-at l = FilledSoFar l.pools l.list l.from l.end l.room l.fn.before l.filling l.at
