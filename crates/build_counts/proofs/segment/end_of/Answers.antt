-- `end_of` meets its contract: so far all events start in the segment. Assumes nothing.
use Rattle.std.proofs.Common.{arith}
use Rattle.build_counts.proofs.SegmentLaws.{lead_end, lead_stop, lead_more}
use Rattle.build_counts.proofs.segment.end_of.Goals as goal

pub returns-then-segment_of_record-index : goal.returns-then-segment_of_record-index
returns-then-segment_of_record-index c =
    lead_stop c.loop-end.invariant c.loop-end-test.true c.segment_of_record.result c.segment_of_record.ensures
    c.if-segment_of_record-index.true

pub loop-end-preserved : goal.loop-end-preserved
loop-end-preserved c =
    lead_more c.loop-end.invariant c.loop-end-test.true c.segment_of_record.result c.segment_of_record.ensures
    c.if-segment_of_record-index.false

pub returns : goal.returns
returns c =
    lead_end c.loop-end.invariant c.loop-end-test.false (λ before. omega arith) (λ before. omega arith)
    (λ behind. omega arith)
