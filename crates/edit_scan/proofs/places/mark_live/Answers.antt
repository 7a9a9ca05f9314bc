-- `places::mark_live` meets its contract: a turn is one step of the pass (`marked_step`). Assumes nothing.
use Rattle.std.proofs.Common.{ℕ, ◌-◌, List, arith}
use mathlib.Core.Path.{sym, ap, ◌∙◌}
use Rattle.edit_scan.specs.Places.{live_marked}
use Rattle.edit_scan.proofs.LiveLaws.{pending_there, there_few, marked_none, marked_step}
use Rattle.edit_scan.proofs.places.mark_live.Goals as goal

pub loop-place-preserved : goal.loop-place-preserved
loop-place-preserved c =
    let from = c.loop-place in
    let b = c.is_seen-undo.result in
    record {
      room = omega (arith, there_few from.pending b);
      marked = from.invariant.marked
          ∙ marked_step from.places from.pending from.place c.loop-place-test.true b c.is_seen-undo.ensures
          ∙ ap (λ (places : List ℕ). live_marked places (pending_there from.pending b) (from.place - 1))
          (sym c.set_place.ensures);
    }

pub returns : goal.returns
returns c =
    let from = c.loop-place in
    sym (from.invariant.marked ∙ marked_none from.places from.pending from.place (omega arith))
