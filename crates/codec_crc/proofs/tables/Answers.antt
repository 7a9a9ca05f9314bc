-- `codec_crc::tables` meets its contract: each of the 2,048 entries, computed. Assumes nothing.
use Rattle.eit.specs.Crc.{crc_bit, crc_bits}
use Rattle.eit.proofs.SameList.{same_list_holds}
use Rattle.codec_crc.specs.CrcTables.{right_crc_tables}
use Rattle.codec_crc.proofs.tables.Goals as goal

pub returns : goal.returns
unfolding right_crc_tables crc_bits crc_bit
returns c = same_list_holds _ _ tt
