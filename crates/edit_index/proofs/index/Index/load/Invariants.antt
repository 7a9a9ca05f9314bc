-- At each turn the first i records are put in.
use Rattle.std.proofs.Common.{◌≡◌}
use Rattle.edit_index.specs.Index.{emptied, loaded}
use Rattle.edit_index.proofs.index.Index.load.Given as goal

abbrev pub invariant-loop-i : goal.invariant-loop-i
invariant-loop-i l = l.self ≡ loaded l.list l.i (emptied l.fn.self)
