-- `pending_before` meets its contract: each command counts as the model counts it (`pending_on`). Assumes nothing.
use Rattle.std.proofs.Common.{◌≡◌, ℕ, ◌+◌, ◌-◌, ◌<◌, get_or, arith}
use mathlib.Core.Path.{ap, ◌∙◌}
use Rattle.script.specs.Form.{operand_bytes}
use Rattle.edit_scan.proofs.CommandLaws.{whole_here, whole_inside}
use Rattle.edit_scan.proofs.PartLaws.{commands_fit, part_whole, count_next}
use Rattle.edit.proofs.PendingLaws.{pending_few, pending_on}
use Rattle.edit.proofs.part.pending_before.Goals as goal

pub bounds-script-i : goal.bounds-script-i
bounds-script-i c =
    whole_here c.loop.i c.args.script.now (part_whole c.args.script.now c.loop.i (omega arith))

pub bounds-script-i-in-loop : goal.bounds-script-i-in-loop
bounds-script-i-in-loop c =
    whole_here c.loop.i c.args.script.now (part_whole c.args.script.now c.loop.i (omega arith))

pub overflow_add-i-in-loop : goal.overflow_add-i-in-loop
overflow_add-i-in-loop c =
    let script = c.args.script.now in
    let i : ℕ = c.loop.i in
    omega (arith, whole_inside i script (part_whole script i (omega arith)), c.operand_bytes.ensures)

pub loop-preserved : goal.loop-preserved
loop-preserved c =
    let from = c.loop in
    let script = c.args.script.now in
    let i : ℕ = from.i in
    let code : ℕ = get_or script i 0 in
    let left : ℕ = c.args.k - from.counter in
    let next : ℕ = i + (1 + c.operand_bytes.result) in
    let there : next ≡ i + (1 + operand_bytes code) = ap (λ (n : ℕ). i + (1 + n)) c.operand_bytes.ensures in
    let some : 0 < left = omega (arith, c.loop-test.true) in
    let fewer : left - 1 ≡ c.args.k - (from.counter + 1) = omega arith in
    let whole = part_whole script i (omega arith) in (
      omega (arith, from.invariant.0, count_next script i next there whole),
      omega (arith, from.invariant.1, pending_few from.kept code from.over),
      rw (← fewer) (from.invariant.2 ∙ pending_on from.over from.kept c.args.undos left i script next there whole some),
    )

pub overflow_add-result : goal.overflow_add-result
overflow_add-result c =
    omega (arith, c.loop.invariant.1, c.saturating_sub.ensures, commands_fit c.args.script.now c.args.at)
