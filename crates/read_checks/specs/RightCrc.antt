-- CRC_32 over a section by lent tables (01, "The file of sections": over the whole section it leaves 0). Law:
-- proofs/RightCrcLaws.antt. Assumes nothing.
use Rattle.std.specs.Prelude.{ℕ, Bool, List, eqb}
use Rattle.eit.specs.Crc.{crc_first}
use Rattle.codec_crc.specs.CrcTables.{crc_by}

-- by the tables of CRC_32 it is `has_right_crc` (`right_crc_by_tables`)
abbrev pub has_right_crc_by : List ℕ → List ℕ → Bool
has_right_crc_by tables bs = eqb (crc_by tables crc_first bs) 0
