-- Big-endian fields (01, "The file of sections": all fields are big-endian; "Edit": big-endian operands). A field of
-- `width` bytes holds a number; its high byte comes first. The laws are in proofs/Fields.antt, over the width.
-- Assumes nothing.
use Rattle.std.specs.Prelude.{ℕ, zero, suc, ◌+◌, ◌*◌, ◌/◌, ◌%◌, ◌^◌, ◌<◌, List, [], ◌∷◌, length, take, drop}

-- a list of bytes: every number of it is below 256
abbrev pub Bytes : List ℕ → Type 0
Bytes [] = Unit {0}
Bytes (b ∷ bs) = (b < 256) × Bytes bs

-- the field of `width` bytes that holds n
abbrev pub big_endian : ℕ → ℕ → List ℕ
big_endian zero n = []
big_endian (suc width) n = n / 256 ^ width % 256 ∷ big_endian width n

-- the number that the bytes of a field hold
abbrev pub value_of : List ℕ → ℕ
value_of [] = 0
value_of (b ∷ bs) = b * 256 ^ length bs + value_of bs

-- `width` bytes from `at` on, and the number that they hold
abbrev pub bytes_at : ℕ → ℕ → List ℕ → List ℕ
bytes_at at width bs = take width (drop at bs)

abbrev pub field : ℕ → ℕ → List ℕ → ℕ
field at width bs = value_of (bytes_at at width bs)
