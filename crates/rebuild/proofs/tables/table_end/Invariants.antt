-- `table_end` meets its contract: at each turn what is left of the table's sections stands at the reader's offset.
use Rattle.std.proofs.Common.{◌≡◌, ◌+◌}
use Rattle.rebuild.proofs.LeadingLaws.{leading_size}
use Rattle.rebuild.proofs.tables.table_end.Given as goal

abbrev pub invariant-loop-at : goal.invariant-loop-at
invariant-loop-at l =
    (l.at-iterator.file.now ≡ l.file)
    × (l.at-iterator.offset ≡ l.end)
    × (l.from + leading_size l.file l.table_id l.from ≡ l.end + leading_size l.file l.table_id l.end)
