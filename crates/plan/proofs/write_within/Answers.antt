-- `plan::write_within` meets its contract: the script's length, then Edit's outcome, decide which text it is.
-- Assumes nothing.
use Rattle.std.proofs.Common.{rules, ◌≡◌, ℕ, List, refl, sym, ap, ◌∙◌, arith}
use Rattle.eit.specs.Sizes.{broadcast}
use Rattle.eit.specs.Pools.{Pools}
use Rattle.eit.specs.Records.{lent_list}
use Rattle.script.specs.Edit.{Edited, edit}
use Rattle.edit_answer.specs.Outcome.{error_number}
use Rattle.edit_answer.specs.declared.EditError.{EditError}
use Rattle.plan_listing.proofs.SizeLaws.{refused_length}
use Rattle.plan.specs.PlanText.{no_pools}
use Rattle.plan.proofs.PlanLaws.{script_long, script_refused, script_list, written_as, written_also}
use Rattle.plan.proofs.write_within.Goals as goal

-- Edit with empty pools
of_nothing : (list script : List ℕ) {pools : Pools} {edited : Edited} → pools ≡ no_pools
    → edit broadcast pools (lent_list list 0) script ≡ edited
    → edit broadcast no_pools (lent_list list 0) script ≡ edited
of_nothing list script empty is = ap (λ (p : Pools). edit broadcast p (lent_list list 0) script) (sym empty) ∙ is

number_not_0 : (refusal : EditError) → error_number refusal ≡ 0 → ⊥
number_not_0 = search rules

pub returns-then-script-gt-SCRIPT_MAX : goal.returns-then-script-gt-SCRIPT_MAX
returns-then-script-gt-SCRIPT_MAX c =
    let a = c.args in
    written_as a.text.now _ (script_long a.list.now a.output.now a.script.now c.if-script-gt-SCRIPT_MAX.true)
    c.write_too_long.ensures (omega arith)

pub returns-in-Err : goal.returns-in-Err
returns-in-Err c =
    let a = c.args in
    let edited = c.in-Err.ensures in
    written_as a.text.now _
    (script_refused a.list.now a.output.now a.script.now c.if-script-gt-SCRIPT_MAX.false _
    (of_nothing a.list.now a.script.now c.new-pools.ensures edited)
    c.number.ensures (λ e. number_not_0 c.in-Err.refusal (sym c.number.ensures ∙ e)))
    c.write_refused.ensures
    (omega (arith, refused_length c.number.result (omega arith)))

pub returns-in-Ok : goal.returns-in-Ok
returns-in-Ok c =
    let a = c.args in
    let edited = c.in-Ok.ensures in
    written_also a.text.now _
    (script_list a.list.now a.output.now a.script.now c.if-script-gt-SCRIPT_MAX.false _
    (of_nothing a.list.now a.script.now c.new-pools.ensures edited)
    {number = 0} refl refl)
    c.write_built.ensures
