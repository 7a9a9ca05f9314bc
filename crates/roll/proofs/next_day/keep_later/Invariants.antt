-- Before each turn the records are kept as `KeptSoFar` says.
use Rattle.roll.proofs.KeepLaws.{KeptSoFar}
use Rattle.roll.proofs.next_day.keep_later.Given as goal

abbrev pub invariant-loop-i : goal.invariant-loop-i
invariant-loop-i l = KeptSoFar l.initial.list l.count l.list l.kept l.i
