-- The versions of all tables, with another one for a table (02, W-208). Assumes nothing.
use Rattle.std.specs.Prelude.{List, ℕ, ◌-◌, set}
use Rattle.sections.specs.Segment.{table_first}

-- a table for which there is none changes nothing
abbrev pub with_version : List ℕ → ℕ → ℕ → List ℕ
with_version versions table version = set versions (table - table_first) version
