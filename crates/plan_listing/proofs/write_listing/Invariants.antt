-- `plan_listing::write_listing` meets its contract: in each turn the lines of the sections from the reader's offset on
-- are left to write, and the last line behind them. Assumes nothing.
use Rattle.std.proofs.Common.{◌≡◌}
use Rattle.plan_listing.proofs.ListingLaws.{lines_from}
use Rattle.plan_listing.specs.Writes.{Writes}
use Rattle.plan_listing.specs.declared.text.Writer.{Writer}
use Rattle.plan_listing.proofs.write_listing.Given as goal

abbrev pub invariant-loop-section : goal.invariant-loop-section
invariant-loop-section l =
    (l.section-iterator.file.now ≡ l.file)
    × ((end : Writer) → Writes l.to (lines_from l.file l.section-iterator.offset) end
    → Writes l.initial.to (lines_from l.file 0) end)
