-- `end_of`: so far all events start in the segment.
use Rattle.build_counts.proofs.SegmentLaws.{LeadSoFar}
use Rattle.build_counts.proofs.segment.end_of.Given as goal

abbrev pub invariant-loop-end : goal.invariant-loop-end
invariant-loop-end l = LeadSoFar l.list l.from l.count l.index l.end
