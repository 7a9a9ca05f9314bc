-- `scan::skip_commands` meets its contract: a turn passes the command at i (`behind_next`), and each way out has its
-- law. Assumes nothing.
use Rattle.std.proofs.Common.{◌≡◌, ℕ, ◌+◌, ◌-◌, arith}
use mathlib.Core.Path.{sym, ap, ◌∙◌}
use Rattle.edit_scan.specs.Commands.{offset_behind}
use Rattle.edit_scan.proofs.CommandLaws.{whole_fails}
use Rattle.edit_scan.proofs.PartLaws.{behind_none, behind_stop, behind_next}
use Rattle.edit_scan.proofs.scan.skip_commands.Goals as goal

pub returns-in_default : goal.returns-in_default
returns-in_default c =
    let from = c.loop in
    let script = c.args.script.now in
    sym (from.invariant
    ∙ behind_stop script (c.args.k - from.counter) from.i (whole_fails from.i script c.in_default.ensures))

pub loop-preserved : goal.loop-preserved
loop-preserved c =
    let from = c.loop in
    let script = c.args.script.now in
    let next : ℕ = from.i + (1 + c.operand_bytes.result) in
    let less : c.args.k - from.counter - 1 ≡ c.args.k - (from.counter + 1) = omega arith in
    from.invariant
    ∙ behind_next script from.i c.in-Some.code next c.in-Some.ensures
    (ap (λ (n : ℕ). from.i + (1 + n)) c.operand_bytes.ensures) (c.args.k - from.counter) (omega arith)
    ∙ ap (λ (k : ℕ). offset_behind k next script) less

pub returns : goal.returns
returns c =
    let from = c.loop in
    let script = c.args.script.now in
    let none : c.args.k - from.counter ≡ 0 = omega arith in
    sym (from.invariant ∙ ap (λ (k : ℕ). offset_behind k from.i script) none ∙ behind_none script from.i)
