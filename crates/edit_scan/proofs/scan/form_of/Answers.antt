-- `scan::form_of` meets its contract: a turn passes the command at `at` (`form_next`). Assumes nothing.
use Rattle.std.proofs.Common.{ℕ, ◌+◌, arith}
use mathlib.Core.Path.{ap, ◌∙◌}
use Rattle.script.specs.Form.{form_from, form_of}
use Rattle.edit_scan.proofs.CommandLaws.{after_none, form_next}
use Rattle.edit_scan.proofs.scan.form_of.Goals as goal

pub loop-code-init : goal.loop-code-init
unfolding form_of
loop-code-init c = (omega arith, after_none (form_from 0 0 c.args.script.now))

pub loop-code-preserved : goal.loop-code-preserved
loop-code-preserved c =
    let from = c.loop-code in
    let next : ℕ = from.at + (1 + c.operand_bytes.result) in (
      omega arith,
      from.invariant.1
          ∙ form_next from.at c.args.script.now c.in-Some.code next c.in-Some.ensures
          (ap (λ (n : ℕ). from.at + (1 + n)) c.operand_bytes.ensures) from.count,
    )
