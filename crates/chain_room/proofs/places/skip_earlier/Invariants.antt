-- `skip_earlier`: so far all records start before the start.
use Rattle.chain_room.proofs.PlaceLaws.{EarlierSoFar}
use Rattle.chain_room.proofs.places.skip_earlier.Given as goal

abbrev pub invariant-loop-at : goal.invariant-loop-at
invariant-loop-at l = EarlierSoFar l.list l.from l.end l.start l.at
