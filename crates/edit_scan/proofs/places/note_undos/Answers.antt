-- `places::note_undos` meets its contract: a turn notes the command at i (`noted_next`), and where no whole command is
-- left nothing is noted (`noted_stop`). Assumes nothing.
use Rattle.std.proofs.Common.{◌≡◌, ℕ, ◌+◌, ◌-◌, List, take, arith}
use mathlib.Core.Path.{sym, ap, ap₂, ◌∙◌}
use Rattle.edit_scan.specs.Commands.{commands_at}
use Rattle.edit_scan.specs.Places.{undos_noted}
use Rattle.edit_scan.proofs.CommandLaws.{whole_fails}
use Rattle.edit_scan.proofs.NotedLaws.{noted_next, noted_stop}
use Rattle.edit_scan.proofs.places.note_undos.Goals as goal

pub loop-place-preserved : goal.loop-place-preserved
loop-place-preserved c =
    let from = c.loop-place in
    let script = c.args.script.now in
    let k : ℕ = c.args.k in
    let next : ℕ = from.i + (1 + c.operand_bytes.result) in
    let less : k - from.place - 1 ≡ k - (from.place + 1) = omega arith in
    from.invariant
    ∙ noted_next from.places from.place (k - from.place) script from.i c.in-Some.code next c.in-Some.ensures
    (ap (λ (n : ℕ). from.i + (1 + n)) c.operand_bytes.ensures) (omega arith)
    ∙ ap₂ (λ (places : List ℕ) (n : ℕ). undos_noted places (from.place + 1) (take n (commands_at next script)))
    (sym c.set_place.ensures) less

pub returns-in_default : goal.returns-in_default
returns-in_default c =
    let from = c.loop-place in
    let script = c.args.script.now in
    let stop = whole_fails from.i script c.in_default.ensures in
    sym (from.invariant ∙ noted_stop from.places from.place (c.args.k - from.place) script from.i stop)
