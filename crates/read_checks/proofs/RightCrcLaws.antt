-- By the tables of CRC_32 the test of a section's CRC_32 is the definition's. Assumes nothing.
use Prim.Native.Nat.{ℕ}
use mathlib.Core.List.{List}
use mathlib.Core.Path.{◌≡◌, ap}
use lib.Dec.{eqb}
use Rattle.eit.specs.Fields.{Bytes}
use Rattle.sections.specs.HeaderTests.{has_right_crc}
use Rattle.codec_crc.specs.CrcTables.{right_crc_tables}
use Rattle.codec_crc.proofs.BlockLaws.{crc32_by_tables}
use Rattle.read_checks.specs.RightCrc.{has_right_crc_by}

pub right_crc_by_tables : (bs : List ℕ) → Bytes bs → has_right_crc_by right_crc_tables bs ≡ has_right_crc bs
unfolding has_right_crc
right_crc_by_tables bs bytes = ap (λ (register : ℕ). eqb register 0) (crc32_by_tables bs bytes)
