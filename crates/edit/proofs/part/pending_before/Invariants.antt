-- `part::pending_before`: as many UNDOs are pending before all k commands as come from those that are left with `kept`
-- edits and `over` UNDOs before them, and each of these is one of the commands passed.
use Rattle.std.proofs.Common.{◌≡◌, ◌+◌, ◌-◌, ◌≤◌, length, take}
use Rattle.script.specs.Struck.{pending_before}
use Rattle.edit_scan.specs.Commands.{commands_at}
use Rattle.edit.proofs.PendingLaws.{pending_after}
use Rattle.edit.proofs.part.pending_before.Given as goal

abbrev pub invariant-loop : goal.invariant-loop
invariant-loop l =
    (l.k - l.counter ≤ length (commands_at l.i l.script)) × (l.over + l.kept ≤ l.counter)
    × (pending_before l.undos (take l.k (commands_at l.at l.script))
    ≡ pending_after l.over l.kept l.undos (take (l.k - l.counter) (commands_at l.i l.script)))
