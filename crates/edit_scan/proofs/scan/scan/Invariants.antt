-- `scan::scan`: what the passes over the whole script find is what they find from `at` on, with `count` commands in
-- front of it and `kept` of their edits not yet struck; each that is counted has a byte before `at`. The measure is what
-- is left of the length.
use Rattle.std.proofs.Common.{◌≡◌, ◌-◌, ◌≤◌, length, drop}
use Rattle.script.specs.Form.{form_from, form_of}
use Rattle.edit_scan.specs.Commands.{scan_found, commands_at}
use Rattle.edit_scan.specs.Places.{striking_noted}
use Rattle.edit_scan.proofs.StrikeLaws.{scan_after}
use Rattle.edit_scan.proofs.scan.scan.Given as goal

abbrev pub invariant-loop-code : goal.invariant-loop-code
invariant-loop-code l =
    record {
      held : l.kept ≤ l.count;
      room : l.count ≤ l.at;
      found : scan_found (form_of l.script) ≡ scan_after l.kept l.count (form_from 0 l.at (drop l.at l.script));
      noted : striking_noted 0 l.initial.places 0 (commands_at 0 l.script)
          ≡ striking_noted l.kept l.places l.count (commands_at l.at l.script);
    }

abbrev pub decreases-loop-code : goal.decreases-loop-code
decreases-loop-code l = length l.script - l.at
