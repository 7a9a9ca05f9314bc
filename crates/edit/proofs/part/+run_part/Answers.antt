-- `run_part` meets its contract: nothing is left to carry out, or the part is short, or there are two halves, one after
-- the other. Assumes nothing.
use Rattle.std.proofs.Common.{ℕ, ◌/◌, List, take, arith, refl}
use mathlib.Core.Path.{sym, ◌∙◌, subst}
use lib.ListN.{length-take}
use Rattle.eit.specs.Records.{lent_list}
use Rattle.eit.specs.Sizes.{sizes_of}
use Rattle.edit_scan.specs.Commands.{commands_at}
use Rattle.edit_scan.specs.Places.{UndoPlaces}
use Rattle.edit_scan.proofs.NotedLaws.{noted_undos}
use Rattle.edit_scan.proofs.PartLaws.{commands_fit}
use Rattle.edit.proofs.HalfLaws.{part_struck, part_sound, half_within, half_ends, half_goes_on}
use Rattle.edit.proofs.RunLaws.{refusal_some}
use Rattle.std.proofs.lemmas.Result.{err_from_is_err_and}
use Rattle.edit.proofs.part.+run_part.Goals as goal

pub returns-then-k-undos : goal.returns-then-k-undos
returns-then-k-undos t c =
    let a = c.args in
    part_struck (sizes_of a.caller) a.pools.now (lent_list a.list.now a.count.now) a.script.now a.undos a.k a.at
    c.if-k-undos.true

pub run_noted-requires : goal.run_noted-requires
run_noted-requires t c =
    let a = c.args in
    let cs = take a.k (commands_at a.at a.script.now) in (
      c.requires.0,
      c.requires.1,
      c.if-k-le-PLACES.true,
      omega arith,
      omega (arith, c.requires.2, c.note_undos.auto.places),
      subst (λ (places : List ℕ). UndoPlaces places cs) (sym c.note_undos.ensures)
          (noted_undos a.noted.now cs (simp length-take (omega (arith, c.requires.1, c.requires.2)))),
    )

pub pending_before-before-requires : goal.pending_before-before-requires
pending_before-before-requires t c =
    let a = c.args in (
      half_within a.script.now a.k a.at (a.k / 2) c.skip_commands-mid.result (omega arith)
          c.skip_commands-mid.ensures
          c.requires.1,
      omega (arith, c.requires.1, commands_fit a.script.now a.at),
    )

pub returns-in_err-run_part : goal.returns-in_err-run_part
returns-in_err-run_part t c =
    let a = c.args in
    let p = err_from_is_err_and c.from_residual.result c.from_residual.ensures.1 in
    rw (p.1, p.2)
    (half_ends (sizes_of a.caller) a.pools.now (lent_list a.list.now a.count.now) a.script.now a.undos a.k a.at (a.k / 2)
    c.skip_commands-mid.result (omega arith) c.skip_commands-mid.ensures c.pending_before-before.result
    c.pending_before-before.ensures _ c.in_err-run_part.ensures (refusal_some c.in_err-run_part.field-0.0))

pub run_part-requires-2 : goal.run_part-requires-2
run_part-requires-2 t c =
    let a = c.args in (
      omega arith,
      (
        part_sound (sizes_of a.caller) a.pools.now (lent_list a.list.now a.count.now) a.script.now
            c.pending_before-before.result (a.k / 2) a.at _ c.in_ok-run_part.ensures c.requires.0,
        half_within a.script.now a.k a.at (a.k / 2) c.skip_commands-mid.result (omega arith)
            c.skip_commands-mid.ensures
            c.requires.1,
        omega (arith, c.requires.2, c.run_part.auto.noted),
      ),
    )

pub returns : goal.returns
returns t c =
    let a = c.args in
    half_goes_on (sizes_of a.caller) a.pools.now (lent_list a.list.now a.count.now) a.script.now a.undos a.k a.at (a.k / 2)
    c.skip_commands-mid.result (omega arith) c.skip_commands-mid.ensures c.pending_before-before.result
    c.pending_before-before.ensures _ c.in_ok-run_part.ensures refl
    ∙ c.run_part-2.ensures
