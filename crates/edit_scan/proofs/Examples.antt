-- The examples of specs/Examples.antt hold: each is computed. Assumes nothing.
use mathlib.Core.Path.{refl}
use Rattle.edit_scan.specs.Commands.{commands_at, offset_behind}
use Rattle.edit_scan.specs.Places.{with_place, live_marked}
use Rattle.edit_scan.specs.Examples.{Examples}

pub examples : Examples
unfolding commands_at offset_behind with_place live_marked
examples =
    record {
      from_start = refl;
      from_undo = refl;
      behind_two = refl;
      undo_noted = refl;
      move_live = refl;
      nothing_noted = refl;
    }
