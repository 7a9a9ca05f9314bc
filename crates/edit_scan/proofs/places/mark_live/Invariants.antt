-- `places::mark_live`: what the pass leaves of the whole set is what it leaves from the places before `place`, with
-- `pending` UNDOs behind these, at most one more for each that is passed.
use Rattle.std.proofs.Common.{◌≡◌, ◌+◌, ◌-◌, ◌≤◌}
use Rattle.edit_scan.specs.Places.{live_marked}
use Rattle.edit_scan.proofs.places.mark_live.Given as goal

abbrev pub invariant-loop-place : goal.invariant-loop-place
invariant-loop-place l =
    record {
      room : l.pending ≤ l.undos + (l.k - l.place);
      marked : live_marked l.initial.places l.undos l.k ≡ live_marked l.places l.pending l.place;
    }
