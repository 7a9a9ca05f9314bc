-- CRC_32 by the tables is CRC_32 bit by bit, whatever the number of bytes: a register that is a xor goes its two ways
-- apart (`crc_of_xor`), so each byte adds an entry of its own, and the rest of the register moves up. Assumes nothing.
use mathlib.Core.Path.{◌≡◌, refl, sym, ap, ap₂, ◌∙◌}
use mathlib.Core.List.{List, [], ◌∷◌}
use Prim.Native.Nat.{ℕ, zero, suc, ◌+◌, ◌-◌, ◌*◌, ◌/◌, ◌%◌, ◌^◌, ◌≤◌, ◌<◌}
use native.Mathlib.Nat.{mod-lt}
use native.Mathlib.Omega.{arith}
use lib.Bits.{bit_xor, xor_lt}
use lib.Dec.{lit<}
use lib.ListN.{length, take, drop, get_or, length-take, length-drop, take-append-drop, drop_of_length-le}
use lib.Pow.{pow_pos}
use lib.Seq.{drop-cons, drop-drop}
use Rattle.std.specs.Simd.{first_chunks}
use Rattle.eit.specs.Crc.{crc_first, crc_bits, crc_byte, crc_of, crc32}
use Rattle.eit.specs.Fields.{Bytes}
use Rattle.eit.proofs.Crc.{crc_bits_lt, crc_bits_add, crc_bits_xor, crc_nil, crc_cons, crc_byte_bits, crc_byte_lt}
use Rattle.eit.proofs.Crc.{crc_lt}
use Rattle.eit.proofs.Crc.{crc_append, crc_byte_table, crc32_of}
use Rattle.eit.proofs.Fields.{bytes_take, bytes_drop}
use Rattle.eit.proofs.Xor.{xor_assoc}
use Rattle.codec_crc.specs.CrcTables.{block_size, right_crc_tables, chosen_entry, crc_block, crc_blocks, crc_by}
use Rattle.codec_crc.proofs.TableLaws.{table_entry}

-- the high byte and a byte choose one of 256 entries
pub entry_lt : (r b : ℕ) → r < 2 ^ 32 → b < 256 → bit_xor (r / 2 ^ 24) b < 256
entry_lt r b hr hb = xor_lt 8 (r / 2 ^ 24) b (omega arith) hb

-- ---- a block, by any tables

block_nil : (tables : List ℕ) (r : ℕ) → crc_block tables r [] ≡ r
unfolding crc_block
block_nil tables r = refl

block_cons : (tables : List ℕ) (r b : ℕ) (bs : List ℕ)
    → crc_block tables r (b ∷ bs)
    ≡ bit_xor (chosen_entry tables (length bs) r b) (crc_block tables (r * 2 ^ 8 % 2 ^ 32) bs)
unfolding crc_block
block_cons tables r b bs = refl

-- a byte of a longer block, behind what the bytes before it have chosen
pub block_step : (tables : List ℕ) (chosen r : ℕ) (block : List ℕ) (i : ℕ) → i < length block
    → bit_xor chosen (crc_block tables r (drop i block))
    ≡ bit_xor (bit_xor chosen (chosen_entry tables (length block - 1 - i) r (get_or block i 0)))
    (crc_block tables (r * 2 ^ 8 % 2 ^ 32) (drop (i + 1) block))
block_step tables chosen r block i h =
    let b : ℕ = get_or block i 0 in
    let more : ℕ = crc_block tables (r * 2 ^ 8 % 2 ^ 32) (drop (i + 1) block) in
    let e : suc i ≡ i + 1 = omega arith in
    let behind : length (drop (i + 1) block) ≡ length block - 1 - i = simp length-drop (omega arith) in
    ap (λ (bs : List ℕ). bit_xor chosen (crc_block tables r bs))
    (drop-cons block i 0 h ∙ ap (λ (n : ℕ). b ∷ drop n block) e)
    ∙ ap (bit_xor chosen) (block_cons tables r b (drop (i + 1) block))
    ∙ ap (λ (n : ℕ). bit_xor chosen (bit_xor (chosen_entry tables n r b) more)) behind
    ∙ sym (xor_assoc chosen (chosen_entry tables (length block - 1 - i) r b) more)

pub block_end : (tables : List ℕ) (chosen r : ℕ) (block : List ℕ) (i : ℕ) → length block ≤ i
    → bit_xor chosen (crc_block tables r (drop i block)) ≡ bit_xor chosen r
block_end tables chosen r block i h =
    ap (bit_xor chosen) (ap (crc_block tables r) (drop_of_length-le block h) ∙ block_nil tables r)

-- ---- block after block, by any tables

blocks_none : (tables : List ℕ) (r : ℕ) (bs : List ℕ) → crc_blocks 0 tables r bs ≡ crc_block tables r bs
unfolding crc_blocks
blocks_none tables r bs = refl

blocks_more : (n : ℕ) (tables : List ℕ) (r : ℕ) (bs : List ℕ)
    → crc_blocks (suc n) tables r bs ≡ crc_blocks n tables (crc_block tables r (take block_size bs)) (drop block_size bs)
unfolding crc_blocks
blocks_more n tables r bs = refl

pub by_step : (tables : List ℕ) (r : ℕ) (bytes : List ℕ) (at : ℕ) → at + block_size ≤ length bytes
    → crc_by tables r (drop at bytes)
    ≡ crc_by tables (crc_block tables r (take block_size (drop at bytes))) (drop (at + block_size) bytes)
unfolding crc_by
by_step tables r bytes at h =
    let more : length (drop at bytes) / block_size ≡ suc (length (drop (at + block_size) bytes) / block_size) =
    simp length-drop (omega arith) in
    ap (λ (n : ℕ). crc_blocks n tables r (drop at bytes)) more
    ∙ blocks_more (length (drop (at + block_size) bytes) / block_size) tables r (drop at bytes)
    ∙ ap (crc_blocks (length (drop (at + block_size) bytes) / block_size) tables
    (crc_block tables r (take block_size (drop at bytes))))
    (drop-drop block_size at bytes)

pub by_end : (tables : List ℕ) (r : ℕ) (bytes : List ℕ) (at : ℕ) → length bytes < at + block_size
    → crc_by tables r (drop at bytes) ≡ crc_block tables r (drop at bytes)
unfolding crc_by
by_end tables r bytes at h =
    let few : length (drop at bytes) / block_size ≡ 0 = simp length-drop (omega arith) in
    ap (λ (n : ℕ). crc_blocks n tables r (drop at bytes)) few ∙ blocks_none tables r (drop at bytes)

-- ---- by the tables

crc_of_xor : (u v : ℕ) (bs : List ℕ) → u < 2 ^ 32 → v < 2 ^ 32 → Bytes bs
    → crc_of (bit_xor u v) bs ≡ bit_xor (crc_bits (8 * length bs) u) (crc_of v bs)
unfolding crc_bits
crc_of_xor u v [] hu hv hb = crc_nil (bit_xor u v) ∙ ap (bit_xor u) (sym (crc_nil v))
crc_of_xor u v (b ∷ bs) hu hv hb =
    let bits : 8 + 8 * length bs ≡ 8 * suc (length bs) = omega arith in
    crc_cons (bit_xor u v) b bs
    ∙ ap (λ (r : ℕ). crc_of r bs) apart
    ∙ crc_of_xor (crc_bits 8 u) (crc_byte v b) bs (crc_bits_lt 8 u hu) (crc_byte_lt v b hv hb.0) hb.1
    ∙ ap₂ bit_xor (sym (crc_bits_add 8 (8 * length bs) u) ∙ ap (λ (n : ℕ). crc_bits n u) bits) (sym (crc_cons v b bs))
  where
    apart : crc_byte (bit_xor u v) b ≡ bit_xor (crc_bits 8 u) (crc_byte v b)
    apart =
        crc_byte_bits (bit_xor u v) b
        ∙ ap (crc_bits 8) (xor_assoc u v (b * 2 ^ 24))
        ∙ crc_bits_xor 8 u (bit_xor v (b * 2 ^ 24)) hu (xor_lt 32 v (b * 2 ^ 24) hv (omega (arith, hb.0)))
        ∙ ap (bit_xor (crc_bits 8 u)) (sym (crc_byte_bits v b))

block_table : (r : ℕ) (bs : List ℕ) → r < 2 ^ 32 → Bytes bs → length bs ≤ block_size
    → crc_block right_crc_tables r bs ≡ crc_of r bs
block_table r [] hr hb h = block_nil right_crc_tables r ∙ sym (crc_nil r)
block_table r (b ∷ bs) hr hb h =
    let k : ℕ = bit_xor (r / 2 ^ 24) b in
    let hk : k < 256 = entry_lt r b hr hb.0 in
    let up : ℕ = r * 2 ^ 8 % 2 ^ 32 in
    let up_lt : up < 2 ^ 32 = mod-lt (r * 2 ^ 8) (pow_pos 32) in
    let bits : 8 * suc (length bs) ≡ 8 + 8 * length bs = omega arith in
    let chosen : chosen_entry right_crc_tables (length bs) r b ≡ crc_bits (8 * length bs) (crc_bits 8 (k * 2 ^ 24)) =
    table_entry (length bs) k (omega arith) hk
    ∙ ap (λ (n : ℕ). crc_bits n (k * 2 ^ 24)) bits
    ∙ crc_bits_add 8 (8 * length bs) (k * 2 ^ 24) in
    block_cons right_crc_tables r b bs
    ∙ ap₂ bit_xor chosen (block_table up bs up_lt hb.1 (omega arith))
    ∙ sym (crc_of_xor (crc_bits 8 (k * 2 ^ 24)) up bs (crc_bits_lt 8 (k * 2 ^ 24) (omega arith)) up_lt hb.1)
    ∙ ap (λ (x : ℕ). crc_of x bs) (sym (crc_byte_table r b hr hb.0))
    ∙ sym (crc_cons r b bs)

blocks_table : (n r : ℕ) (bs : List ℕ) → r < 2 ^ 32 → Bytes bs → length bs ≤ n * block_size + block_size
    → crc_blocks n right_crc_tables r bs ≡ crc_of r bs
unfolding crc_blocks
blocks_table zero r bs hr hb h = block_table r bs hr hb (omega arith)
blocks_table (suc n) r bs hr hb h =
    let front : crc_block right_crc_tables r (take block_size bs) ≡ crc_of r (take block_size bs) =
    block_table r (take block_size bs) hr (bytes_take block_size bs hb) (simp length-take (omega arith)) in
    ap (λ (x : ℕ). crc_blocks n right_crc_tables x (drop block_size bs)) front
    ∙ blocks_table n (crc_of r (take block_size bs)) (drop block_size bs)
    (crc_lt r (take block_size bs) hr (bytes_take block_size bs hb))
    (bytes_drop block_size bs hb) (simp length-drop (omega arith))
    ∙ sym (crc_append r (take block_size bs) (drop block_size bs))
    ∙ ap (crc_of r) (take-append-drop block_size bs)

pub crc_by_tables : (r : ℕ) (bs : List ℕ) → r < 2 ^ 32 → Bytes bs → crc_by right_crc_tables r bs ≡ crc_of r bs
unfolding crc_by
crc_by_tables r bs hr hb = blocks_table (length bs / block_size) r bs hr hb (omega arith)

pub crc32_by_tables : (bs : List ℕ) → Bytes bs → crc_by right_crc_tables crc_first bs ≡ crc32 bs
crc32_by_tables bs h = crc_by_tables crc_first bs (lit< tt) h ∙ sym (crc32_of bs)

-- the blocks are the bytes, eight by eight
pub block_at : (d : List ℕ) (k : ℕ) (bytes : List ℕ) (i : ℕ) → i < k
    → get_or (first_chunks block_size k bytes) i d ≡ take block_size (drop (block_size * i) bytes)
block_at d zero bytes i inside = absurd (omega arith)
block_at d (suc k) bytes zero inside = refl
block_at d (suc k) bytes (suc i) inside =
    let next : block_size + block_size * i ≡ block_size * suc i = omega arith in
    block_at d k (drop block_size bytes) i (omega arith)
    ∙ ap (take block_size) (drop-drop (block_size * i) block_size bytes ∙ ap (λ (n : ℕ). drop n bytes) next)
