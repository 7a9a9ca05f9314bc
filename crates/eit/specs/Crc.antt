-- CRC_32 bit by bit (01, "The file of sections": register first 0xFFFFFFFF, polynomial 0x04C11DB7, high bit first, no
-- final inversion; over the whole section it leaves 0). The laws are in proofs/Crc.antt. Assumes nothing.
use Rattle.std.specs.Prelude.{ℕ, zero, suc, ◌*◌, ◌%◌, ◌^◌, true, false, List, [], ◌∷◌, ltb}
use Rattle.std.specs.Int.Bits.{bit_xor}

-- the register before the first byte
abbrev pub crc_first : ℕ
crc_first = 0xFFFF_FFFF

-- x^26 + x^23 + x^22 + x^16 + x^12 + x^11 + x^10 + x^8 + x^7 + x^5 + x^4 + x^2 + x + 1, below x^32
abbrev pub polynomial : ℕ
polynomial = 0x04C1_1DB7

-- the register moves up by one bit; where the bit that leaves at the high end is 1, the polynomial is added
unfoldable pub crc_bit : ℕ → ℕ
crc_bit r = elim (ltb r (2 ^ 31)) [ true ↦ r * 2 % 2 ^ 32 | false ↦ bit_xor (r * 2 % 2 ^ 32) polynomial ]

-- the register after n bits
unfoldable pub crc_bits : ℕ → ℕ → ℕ
crc_bits zero r = r
crc_bits (suc n) r = crc_bits n (crc_bit r)

-- a byte is added at the high end of the register, and its eight bits leave there, the high one first
unfoldable pub crc_byte : ℕ → ℕ → ℕ
unfolding crc_bits crc_bit
crc_byte r b = crc_bits 8 (bit_xor r (b * 2 ^ 24))

-- the register r after the bytes
unfoldable pub crc_of : ℕ → List ℕ → ℕ
unfolding crc_byte
crc_of r [] = r
crc_of r (b ∷ bs) = crc_of (crc_byte r b) bs

-- no final inversion
unfoldable pub crc32 : List ℕ → ℕ
unfolding crc_of
crc32 bs = crc_of crc_first bs
