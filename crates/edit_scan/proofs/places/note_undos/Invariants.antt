-- `places::note_undos`: what the pass leaves of the set is what it leaves from `place` on, with the commands from i on.
use Rattle.std.proofs.Common.{◌≡◌, ◌-◌, take}
use Rattle.edit_scan.specs.Commands.{commands_at}
use Rattle.edit_scan.specs.Places.{undos_noted}
use Rattle.edit_scan.proofs.places.note_undos.Given as goal

abbrev pub invariant-loop-place : goal.invariant-loop-place
invariant-loop-place l =
    undos_noted l.initial.places 0 (take l.k (commands_at l.at l.script))
    ≡ undos_noted l.places l.place (take (l.k - l.place) (commands_at l.i l.script))
