-- `Writer::write_events`: in each turn the events from i on are left to write, from `offset` on.
use Rattle.build.proofs.SectionLaws.{EventLoopSoFar}
use Rattle.build.proofs.section.Writer.write_events.Given as goal

abbrev pub invariant-loop-i : goal.invariant-loop-i
invariant-loop-i l =
    EventLoopSoFar l.self.base_day l.self.pools.now l.self.list.now l.from l.to l.fn.out l.at l.out l.offset l.i
