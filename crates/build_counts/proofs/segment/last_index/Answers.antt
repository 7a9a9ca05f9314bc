-- `last_index` meets its contract: the last record decides, if there is one. Assumes nothing.
use Rattle.build_counts.proofs.SegmentLaws.{last_none, last_some}
use Rattle.build_counts.proofs.segment.last_index.Goals as goal

pub returns-then-count-eq0 : goal.returns-then-count-eq0
returns-then-count-eq0 c = last_none _ _ c.if-count-eq0.true

pub returns : goal.returns
returns c = last_some _ _ c.if-count-eq0.false c.segment_of_record.ensures
