-- `codec_crc::CrcTables::register_after` meets its contract: by the right tables `crc_by` is CRC_32's register
-- (`crc_by_tables`). Assumes nothing.
use Rattle.std.proofs.Common.{ℕ, List, ap, ◌∙◌, arith}
use Rattle.eit.proofs.Fields.{bytes_all}
use Rattle.codec_crc.specs.CrcTables.{crc_by}
use Rattle.codec_crc.proofs.BlockLaws.{crc_by_tables}
use Rattle.codec_crc.proofs.CrcTables.register_after.Goals as goal

pub returns : goal.returns
returns c =
    let bytes = c.args.bytes.now in
    c.crc_by.ensures
    ∙ ap (λ (tables : List ℕ). crc_by tables c.args.register bytes) c.args.self.now.are_right
    ∙ crc_by_tables c.args.register bytes (omega arith) (bytes_all bytes (λ k. (c.type_inv.bytes k).fits))
