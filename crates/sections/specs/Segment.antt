-- Segments: three hours each, counted from midnight UTC of the base day (01, "The file of sections"). Laws:
-- proofs/Count.antt. Assumes nothing.
use Rattle.std.specs.Prelude.{ℕ, ◌+◌, ◌-◌, ◌*◌, ◌/◌, ◌%◌}

-- table_id, 0x50 to 0x5F
abbrev pub table_first : ℕ
table_first = 0x50

abbrev pub table_max : ℕ
table_max = 0x5F

-- 01's term: segment index. Start ÷ 10,800, rounded down
abbrev pub segment_index : ℕ → ℕ
segment_index start = start / 10_800

-- table 0x50 + index ÷ 32
abbrev pub table_of : ℕ → ℕ
table_of index = table_first + index / 32

-- 01's term: segment. Index mod 32; segments count from 0
abbrev pub segment_of : ℕ → ℕ
segment_of index = index % 32

-- first section s0 = 8 × segment
abbrev pub first_section : ℕ → ℕ
first_section index = 8 * segment_of index

-- s0 = S − S mod 8: the first section of the segment that section_number S belongs to
abbrev pub first_of : ℕ → ℕ
first_of number = number - number % 8
