-- `count_segment` meets its contract: before each turn what is counted so far, with what the rest needs, is the count.
-- The loop ends with eight sections, or with nothing left. Assumes nothing.
use Rattle.std.proofs.Common.{arith}
use Rattle.build_counts.proofs.PackLaws.{pack_more, pack_short, pack_end, pack_none}
use Rattle.build_counts.proofs.count.count_segment.Goals as goal

pub returns-then-end-from : goal.returns-then-end-from
returns-then-end-from c = pack_none _ _ _ c.if-end-from.true

pub overflow_add-bytes : goal.overflow_add-bytes
overflow_add-bytes c =
    let here = c.loop-sections in
    let next = c.next_cut-next in
    omega (arith, (pack_more here.invariant.0 (omega arith) (omega arith) next.result next.ensures).small)

pub overflow_add-bytes-in-loop-sections : goal.overflow_add-bytes-in-loop-sections
overflow_add-bytes-in-loop-sections c =
    let here = c.loop-sections in
    let next = c.next_cut-next in
    omega (arith, (pack_more here.invariant.0 (omega arith) (omega arith) next.result next.ensures).small)

pub returns-then-end-at : goal.returns-then-end-at
returns-then-end-at c =
    let here = c.loop-sections in
    let next = c.next_cut-next in
    pack_end (pack_more here.invariant.0 (omega arith) (omega arith) next.result next.ensures)
    (λ inside few. omega arith)
    c.if-end-at.true

pub loop-sections-preserved : goal.loop-sections-preserved
loop-sections-preserved c =
    let here = c.loop-sections in
    let next = c.next_cut-next in
    (pack_more here.invariant.0 (omega arith) (omega arith) next.result next.ensures, omega arith)

pub returns : goal.returns
returns c =
    let here = c.loop-sections in
    pack_short here.invariant.0 (λ inside few. omega arith) here.invariant.1
