-- `fill::fill_file`: before each turn the records are filled in as `FileSoFar` says, up to the reader's offset.
use Rattle.std.proofs.Common.{◌≡◌}
use Rattle.read.proofs.FileLaws.{FileSoFar}
use Rattle.read.proofs.fill.fill_file.Given as goal

abbrev pub invariant-loop-offset : goal.invariant-loop-offset
invariant-loop-offset l =
    (l.offset-iterator.file.now ≡ l.file)
    × FileSoFar l.base_day l.file l.fn.records l.records l.n l.offset-iterator.offset
