-- At each turn the entries before i are passed. The measure is the entries left.
use Rattle.std.proofs.Common.{◌-◌, length}
use Rattle.edit_index.specs.Search.{Passed}
use Rattle.edit_index.proofs.search.passed_by_strides.Given as goal

abbrev pub invariant-loop-i : goal.invariant-loop-i
invariant-loop-i l = Passed l.start l.entries l.i

abbrev pub decreases-loop-i : goal.decreases-loop-i
decreases-loop-i l = length l.entries - l.i
