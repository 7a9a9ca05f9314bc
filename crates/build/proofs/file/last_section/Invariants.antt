-- `last_section`: none of the segments that were looked at has sections.
use Rattle.build.proofs.RowLaws.{NoneFrom}
use Rattle.build.proofs.file.last_section.Given as goal

abbrev pub invariant-loop-segment : goal.invariant-loop-segment
invariant-loop-segment l = NoneFrom l.counts l.segment
