-- The loop's invariant: the register after all the bytes is that after the bytes behind the blocks so far, begun with
-- `r`.
use Rattle.std.proofs.Common.{◌≡◌, ◌*◌, drop}
use Rattle.codec_crc.specs.CrcTables.{block_size, crc_by}
use Rattle.codec_crc.proofs.crc_by.Given as goal

abbrev pub invariant-loop-block : goal.invariant-loop-block
invariant-loop-block l = crc_by l.tables l.register l.bytes ≡ crc_by l.tables l.r (drop (block_size * l.block-index) l.bytes)
