-- Before each turn the pass stands as `Pass` says. The measure is the records left.
use Rattle.list_sound.proofs.PassLaws.{Pass}
use Rattle.list_sound.proofs.is_sound.Given as goal

abbrev pub invariant-loop-i : goal.invariant-loop-i
invariant-loop-i l = Pass l.pools l.list l.count l.seen l.least l.i
