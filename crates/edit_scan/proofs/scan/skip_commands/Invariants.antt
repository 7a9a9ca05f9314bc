-- `scan::skip_commands`: what is behind k commands from `at` on is behind those that are left from `i` on.
use Rattle.std.proofs.Common.{◌≡◌, ◌-◌}
use Rattle.edit_scan.specs.Commands.{offset_behind}
use Rattle.edit_scan.proofs.scan.skip_commands.Given as goal

abbrev pub invariant-loop : goal.invariant-loop
invariant-loop l = offset_behind l.k l.at l.script ≡ offset_behind (l.k - l.counter) l.i l.script
