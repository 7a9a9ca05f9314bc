-- `Writer::write_segment`: after k turns k sections are written, and the events from `next` on are left for the others.
use Rattle.build.proofs.SectionsLaws.{SegmentSoFar}
use Rattle.build.proofs.section.Writer.write_segment.Given as goal

abbrev pub invariant-loop-k : goal.invariant-loop-k
invariant-loop-k l =
    SegmentSoFar l.self.pools.now l.self.list.now l.room l.first l.sections l.end l.self.base_day l.fn.out l.at
    l.from l.out l.offset l.next l.k
