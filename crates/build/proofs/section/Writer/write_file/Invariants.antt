-- `Writer::write_file`: before each turn the segments before it are written, and the events from `from` on are those of
-- this segment and of later ones (`FileSoFar`).
use Rattle.build.proofs.FileLaws.{FileSoFar}
use Rattle.build.proofs.section.Writer.write_file.Given as goal

abbrev pub invariant-loop-index : goal.invariant-loop-index
invariant-loop-index l =
    FileSoFar l.self.pools.now l.self.list.now l.count l.fn.sizes l.identity l.self.base_day l.fn.out l.out l.last l.at
    l.from l.index
