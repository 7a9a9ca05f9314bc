-- `check_within`: before each turn the walk stands as `WalkSoFar` says, at the reader's offset.
use Rattle.std.proofs.Common.{◌≡◌}
use Rattle.read_check.proofs.WalkLaws.{WalkSoFar}
use Rattle.read_check.proofs.check_within.Given as goal

abbrev pub invariant-loop-offset : goal.invariant-loop-offset
invariant-loop-offset l =
    (l.offset-iterator.file.now ≡ l.file)
    × WalkSoFar l.sizes l.base_day l.file l.versions l.seen l.state l.offset-iterator.offset
