-- `scan::scan` meets its contract: a turn passes the command at `at` (`scan_next`, `striking_next`), and each way out
-- has its laws: an UNDO with nothing to strike, a script that is broken, and its end. Assumes nothing.
use Rattle.std.proofs.Common.{◌≡◌, ℕ, ◌+◌, ◌≤◌, Bool, Err, nat_eq, List, refl, arith}
use mathlib.Core.Path.{sym, ap, ◌∙◌}
use mir.Val.{bool_byte}
use Rattle.script.specs.Form.{operand_bytes, form_from, form_of}
use Rattle.edit_scan.specs.Commands.{commands_at}
use Rattle.edit_scan.specs.Places.{striking_noted}
use Rattle.edit_scan.proofs.CommandLaws.{whole_fails, form_stop, form_all}
use Rattle.edit_scan.proofs.StrikeLaws.{byte_few, scan_after, scan_all, kept_after, scan_next, striking_next}
use Rattle.edit_scan.proofs.StrikeLaws.{scan_nothing, striking_nothing, striking_stop}
use Rattle.edit_scan.proofs.scan.scan.Goals as goal

pub loop-code-init : goal.loop-code-init
unfolding form_of
loop-code-init c =
    record {
      held = omega arith;
      room = omega arith;
      found = scan_all (form_from 0 0 c.args.script.now);
      noted = refl;
    }

pub returns-then-kept-undo : goal.returns-then-kept-undo
returns-then-kept-undo c =
    let from = c.loop-code in
    let script = c.args.script.now in
    let next : ℕ = from.at + (1 + operand_bytes c.in-Some.code) in
    let told = c.in-Some.ensures in
    let short = c.if-kept-undo.true in (
      ap Err c.unless_broken.ensures
          ∙ scan_nothing from.kept from.count from.at script c.in-Some.code next told refl short from.invariant.found,
      sym (from.invariant.noted
          ∙ striking_nothing from.kept from.count from.at script c.in-Some.code next told refl short from.places),
    )

pub loop-code-preserved : goal.loop-code-preserved
loop-code-preserved c =
    let from = c.loop-code in
    let script = c.args.script.now in
    let code : ℕ = c.in-Some.code in
    let told = c.in-Some.ensures in
    let next : ℕ = from.at + (1 + c.operand_bytes.result) in
    let there : next ≡ from.at + (1 + operand_bytes code) = ap (λ (n : ℕ). from.at + (1 + n)) c.operand_bytes.ensures in
    let is_undo : Bool = nat_eq code 0x04 in
    let left : ℕ = kept_after from.kept is_undo in
    let has : bool_byte is_undo ≤ from.kept = c.if-kept-undo.false in
    record {
      held = omega (arith, byte_few is_undo);
      room = omega arith;
      found = from.invariant.found ∙ scan_next from.kept from.count from.at script code next told there has;
      noted = from.invariant.noted
          ∙ striking_next from.kept from.count from.at script code next told there has from.places
          ∙ ap (λ (places : List ℕ). striking_noted left places (from.count + 1) (commands_at next script))
          (sym c.set_place.ensures);
    }

pub returns-then-at-script : goal.returns-then-at-script
returns-then-at-script c =
    let from = c.loop-code in
    let script = c.args.script.now in
    let stop = whole_fails from.at script c.in_default.ensures in (
      sym (from.invariant.found
          ∙ ap (scan_after from.kept from.count) (form_stop from.at script c.if-at-script.true stop)),
      sym (from.invariant.noted ∙ striking_stop from.kept from.count from.at script from.places stop),
    )

pub returns : goal.returns
returns c =
    let from = c.loop-code in
    let script = c.args.script.now in
    let stop = whole_fails from.at script c.in_default.ensures in (
      sym (from.invariant.found ∙ ap (scan_after from.kept from.count) (form_all from.at script c.if-at-script.false)),
      sym (from.invariant.noted ∙ striking_stop from.kept from.count from.at script from.places stop),
    )
