-- The header of the section before, and that of a section that passes (01, "The file of sections"). Assumes nothing.
use Rattle.std.specs.Prelude.{Bool, true, ◌&&◌, ◌||◌, List, ℕ, eqb, ltb, Option, Some, None}
use Rattle.std.specs.Bool.{then_some}
use Rattle.std.proofs.Math.Option.{Option as Maybe, none, some}
use Rattle.sections.specs.Section.{Header, table_version}
use Rattle.sections.specs.Decode.{header_in}
use Rattle.sections.specs.HeaderTests.{is_table, has_fixed_bits, is_same_file}
use Rattle.codec_section.specs.HeaderRead.{held_header}
use Rattle.codec_section.specs.declared.header.SectionHeader.{SectionHeader}

-- no section stands before the first one
abbrev pub header_before : Option SectionHeader → Maybe Header
header_before (Some h) = some (held_header h)
header_before None = none

-- the section's version is that of its table, or the table has not come: it is past that of the section before
abbrev pub is_table_version : Maybe Header → List ℕ → Header → Bool
is_table_version none versions h = true
is_table_version (some g) versions h =
    ltb g.table_id h.table_id || eqb h.version (table_version versions h.table_id)

-- 22 by the header before and the versions of the tables so far: `is_header`, where these are those of the headers
-- before
abbrev pub is_header_by : Maybe Header → List ℕ → List ℕ → Bool
is_header_by before versions bs =
    let h = header_in bs in
    has_fixed_bits bs && (is_table h.last_table_id && (is_same_file before h && is_table_version before versions h))

-- the header of a section that passes
abbrev pub checked_header : Maybe Header → List ℕ → List ℕ → Option Header
checked_header before versions bs = then_some (is_header_by before versions bs) (header_in bs)
