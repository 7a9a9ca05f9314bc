-- `Writer::write_segment` meets its contract: a turn writes the next section, with as many of the next events as fit
-- (`segment_more`). Assumes nothing.
use Rattle.std.proofs.Common.{arith}
use Rattle.build.proofs.SectionsLaws.{segment_start, segment_end, segment_size, segment_fits, segment_more}
use Rattle.build.proofs.section.Writer.write_segment.Goals as goal

pub loop-k-init : goal.loop-k-init
loop-k-init c = segment_start c.requires.0

pub overflow_add-size : goal.overflow_add-size
overflow_add-size c =
    let taken = c.next_cut-taken in
    omega (arith, segment_fits c.loop-k.invariant c.loop-k-test.true taken.result taken.ensures)

pub write_section-requires : goal.write_section-requires
write_section-requires c =
    let taken = c.next_cut-taken in (
      segment_size c.loop-k.invariant c.loop-k-test.true taken.result taken.ensures,
      segment_fits c.loop-k.invariant c.loop-k-test.true taken.result taken.ensures,
    )

pub overflow_add-offset : goal.overflow_add-offset
overflow_add-offset c =
    let taken = c.next_cut-taken in
    omega (arith, segment_fits c.loop-k.invariant c.loop-k-test.true taken.result taken.ensures)

pub loop-k-preserved : goal.loop-k-preserved
loop-k-preserved c =
    let taken = c.next_cut-taken in
    segment_more c.loop-k.invariant c.loop-k-test.true taken.result taken.ensures
    {out' = c.write_section.new.out} c.write_section.ensures

pub returns : goal.returns
returns c = segment_end c.loop-k.invariant (omega arith)
