-- CRC_32 by eight tables of 256 entries, eight bytes a step. Laws: proofs/TableLaws.antt, BlockLaws.antt.
-- Assumes nothing.
use Rattle.std.specs.Prelude.{ℕ, zero, suc, ◌+◌, ◌*◌, ◌/◌, ◌%◌, ◌^◌, List, [], ◌∷◌, ◌++◌, map, length, get_or, take, drop}
use Rattle.std.specs.Int.Bits.{bit_xor}
use Rattle.eit.specs.Crc.{crc_bits}

-- how many tables there are, and so how many bytes a step takes; and the entries of a table
abbrev pub block_size : ℕ
block_size = 8

abbrev pub table_size : ℕ
table_size = 256

-- entry k of table j: the register k × 2^24 after its own byte and j bytes more
abbrev pub entry_of : ℕ → ℕ → ℕ
entry_of j k = crc_bits (8 * suc j) (k * 2 ^ 24)

-- the first table, from entry k on
unfoldable pub entries_from : ℕ → ℕ → List ℕ
entries_from k zero = []
entries_from k (suc n) = crc_bits 8 (k * 2 ^ 24) ∷ entries_from (suc k) n

-- n tables, one behind the other: each has the entries of the one before after a byte more
unfoldable pub tables_from : ℕ → List ℕ → List ℕ
tables_from zero table = []
tables_from (suc n) table = table ++ tables_from n (map (crc_bits 8) table)

unfoldable pub right_crc_tables : List ℕ
unfolding entries_from tables_from
right_crc_tables = tables_from block_size (entries_from 0 table_size)

-- the entry that the register's high byte and a byte choose: of the table for as many bytes as come behind it
abbrev pub chosen_entry : List ℕ → ℕ → ℕ → ℕ → ℕ
chosen_entry tables behind r b = get_or tables (behind * table_size + bit_xor (r / 2 ^ 24) b) 0

-- the register after a block, by any tables: each byte adds the entry that it chooses, and the rest of the register
-- moves up
unfoldable pub crc_block : List ℕ → ℕ → List ℕ → ℕ
crc_block tables r [] = r
crc_block tables r (b ∷ bs) = bit_xor (chosen_entry tables (length bs) r b) (crc_block tables (r * 2 ^ 8 % 2 ^ 32) bs)

-- n whole blocks, and the bytes behind them
unfoldable pub crc_blocks : ℕ → List ℕ → ℕ → List ℕ → ℕ
unfolding crc_block
crc_blocks zero tables r bs = crc_block tables r bs
crc_blocks (suc n) tables r bs = crc_blocks n tables (crc_block tables r (take block_size bs)) (drop block_size bs)

-- the register after the bytes
unfoldable pub crc_by : List ℕ → ℕ → List ℕ → ℕ
unfolding crc_blocks
crc_by tables r bs = crc_blocks (length bs / block_size) tables r bs
