-- `passed_by_strides` meets its contract: at each turn the entries before i are passed. Assumes nothing.
use Rattle.std.proofs.Common.{arith}
use Rattle.edit_index.proofs.SearchLaws.{part_past, pass_rest, passed_length}
use Rattle.edit_index.proofs.search.passed_by_strides.Goals as goal

pub loop-i-preserved : goal.loop-i-preserved
loop-i-preserved c =
    part_past _ _ c.loop-i.i _ c.passed_in-passed.result c.loop-i.invariant c.passed_in-passed.ensures
    (omega arith) (omega arith) (omega arith)

pub overflow_add-result-2 : goal.overflow_add-result-2
overflow_add-result-2 c =
    let entries = c.args.entries.now in
    let all = pass_rest c.args.start entries c.loop-i.i c.passed_in.result c.loop-i.invariant c.passed_in.ensures in
    omega (arith, all, passed_length c.args.start entries)
