-- `command::command_at` meets its contract: each return is the case of `command_of` that the match chose, with the
-- operands that stand behind the byte. Assumes nothing.
use mathlib.Core.Path.{sym, ◌∙◌}
use Rattle.eit.proofs.Fields.{bytes_all}
use Rattle.edit_scan.proofs.OperandLaws.{read_withdraw, read_move}
use Rattle.edit_scan.proofs.command.command_at.Goals as goal

pub returns-in-2 : goal.returns-in-2
returns-in-2 c =
    let script = c.args.script.now in
    let got = c.in-Some.ensures in
    read_withdraw script (bytes_all script (λ k. (c.type_inv.script k).fits)) c.args.at c.read_field.result
    (sym (got.lookup.3.1 0) ∙ c.in-2.is) c.read_field.ensures

pub returns-in-3 : goal.returns-in-3
returns-in-3 c =
    let script = c.args.script.now in
    let got = c.in-Some.ensures in
    read_move script (bytes_all script (λ k. (c.type_inv.script k).fits)) c.args.at c.read_field-in-3.result
    c.read_field-in-3-2.result (sym (got.lookup.3.1 0) ∙ c.in-3.is) c.read_field-in-3.ensures
    c.read_field-in-3-2.ensures
