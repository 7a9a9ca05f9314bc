-- `is_inside` meets its contract: the first event from `from` on decides. Assumes nothing.
use Rattle.build_counts.proofs.SegmentLaws.{inside_none, inside_first, inside_table}
use Rattle.build_counts.proofs.segment.is_inside.Goals as goal

pub returns-then-count-from : goal.returns-then-count-from
returns-then-count-from c = inside_none _ _ _ _ c.if-count-from.true

pub returns-then-index-eq0 : goal.returns-then-index-eq0
returns-then-index-eq0 c = inside_first _ _ _ _ c.if-count-from.false c.if-index-eq0.true

pub returns-else-index-eq0 : goal.returns-else-index-eq0
returns-else-index-eq0 c =
    inside_table _ _ _ _ c.if-count-from.false c.if-index-eq0.false c.segment_of_record.result
    c.segment_of_record.ensures
