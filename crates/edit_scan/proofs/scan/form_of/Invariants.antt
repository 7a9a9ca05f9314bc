-- `scan::form_of`: the script has the form that it has from `at` on with those counted in front, and each that is
-- counted has a byte before `at`. The measure is what is left of the length.
use Rattle.std.proofs.Common.{◌≡◌, ◌-◌, ◌≤◌, length, drop}
use Rattle.script.specs.Form.{form_from, form_of}
use Rattle.edit_scan.specs.Commands.{form_found}
use Rattle.edit_scan.proofs.CommandLaws.{form_after}
use Rattle.edit_scan.proofs.scan.form_of.Given as goal

abbrev pub invariant-loop-code : goal.invariant-loop-code
invariant-loop-code l =
    (l.count ≤ l.at)
    × (form_found (form_of l.script) ≡ form_after l.count (form_from 0 l.at (drop l.at l.script)))

abbrev pub decreases-loop-code : goal.decreases-loop-code
decreases-loop-code l = length l.script - l.at
