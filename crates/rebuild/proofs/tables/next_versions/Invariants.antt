-- `next_versions` meets its contract: at each turn both files are passed up to the table's first section, and the
-- versions before the table's are set, and the others are as they were.
use Rattle.rebuild.proofs.NextLaws.{Turn}
use Rattle.rebuild.proofs.tables.next_versions.Given as goal

abbrev pub invariant-loop-table : goal.invariant-loop-table
invariant-loop-table l =
    Turn l.previous l.file l.fn.versions l.version-items l.previous_at l.at l.table
