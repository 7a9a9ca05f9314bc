-- `first_header` meets its contract: the index gives the table, its version and the first section. Assumes nothing.
use Rattle.std.proofs.Common.{◌≡◌, ◌-◌, ◌/◌, arith, ℕ}
use Rattle.sections.specs.Segment.{table_first, table_of}
use Rattle.sections.proofs.Version.{version_of_holds}
use Rattle.build.proofs.file.first_header.Goals as goal

table-back : (index : ℕ) → table_of index - table_first ≡ index / 32
table-back index = omega arith

pub returns : goal.returns
returns c =
    let a = c.args in
    rw (
      c.first_section-number.ensures,
      c.table_of.ensures,
      version_of_holds a.identity (table_of a.index),
      table-back a.index,
    )
