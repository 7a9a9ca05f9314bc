-- A record that is written in its place of the lent buffer (01, "Event record and sound list": a record is six u32
-- numbers). Laws: proofs/WriteLaws.antt. Assumes nothing.
use Rattle.std.specs.Prelude.{ℕ, ◌*◌, ◌/◌, true, false, List, ltb, length}
use Rattle.eit.specs.Overwrite.{overwrite}
use Rattle.eit.specs.Records.{record_size, numbers_of}
use Rattle.eit.specs.declared.Record.{Record}

-- record i written; where there is no room for it, all stays
unfoldable pub record_written : List ℕ → ℕ → Record → List ℕ
record_written d i r =
    elim (ltb i (length d / record_size)) [ true ↦ overwrite d (i * record_size) (numbers_of r) | false ↦ d ]
