-- At each turn the records before i are passed.
use Rattle.std.proofs.Common.{◌≤◌}
use Rattle.list_records.proofs.PlaceLaws.{Passed}
use Rattle.list_records.proofs.place.place_in.Given as goal

abbrev pub invariant-loop-i : goal.invariant-loop-i
invariant-loop-i l = (l.i ≤ l.many) × Passed l.start l.list l.count l.many l.i
