-- The loop's invariant: what the bytes so far have chosen, with what the rest of the block comes to from the rest of
-- the register, is what the whole block comes to.
use Rattle.std.proofs.Common.{◌≡◌, drop, bit_xor}
use Rattle.codec_crc.specs.CrcTables.{crc_block}
use Rattle.codec_crc.proofs.crc_block.Given as goal

abbrev pub invariant-loop-i : goal.invariant-loop-i
invariant-loop-i l = crc_block l.tables l.register l.block ≡ bit_xor l.chosen (crc_block l.tables l.rest (drop l.i l.block))
