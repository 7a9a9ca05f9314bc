-- The CRC of a section is 0 with its own four bytes at the end, and with no other four: a bit's step is linear over
-- xor, so the four bytes act as one 32-bit number added to the register, and only the register 0 ends at 0.
-- Assumes nothing.
use mathlib.Core.Path.{◌≡◌, refl, sym, ap, ap₂, ◌∙◌}
use mathlib.Core.List.{List, [], ◌∷◌, ◌++◌}
use Prim.Native.Nat.{ℕ, zero, suc, ◌+◌, ◌-◌, ◌*◌, ◌/◌, ◌%◌, ◌^◌, ◌≤◌, ◌<◌}
use native.Mathlib.Nat.{mod-lt, add-zero, mod-eq_of_lt, mul-mod_left, mul-one, zero-mul, add-mul}
use native.Mathlib.Nat.{mul-lt-mul_of_pos_right}
use native.Mathlib.Nat.{mul_assoc, le-mul_of_pos_right, pow-succ', zero-add, suc-add}
use native.Mathlib.Decide.{dec_lt}
use native.Mathlib.Omega.{arith}
use lib.Arith.{le→nltb}
use lib.Bits.{bit_xor, xor_lt, xor_mod, xor_shr, xor_block, xor_shifted, xor_self, xor_zero_r}
use lib.Dec.{ltb, lt→ltb, lit<}
use lib.Pow.{pow_pos, pow-add, split}
use lib.ListN.{length}
use Rattle.eit.specs.Fields.{Bytes, big_endian, value_of}
use Rattle.eit.specs.Crc.{crc_first, polynomial, crc_bit, crc_bits, crc_byte, crc_of, crc32}
use Rattle.eit.proofs.Test.{true_is, false_is}
use Rattle.eit.proofs.Fields.{big_endian_bytes, big_endian_value, value_back, value_lt}
use Rattle.eit.proofs.Xor.{xor_assoc, xor_swap, xor_shl, xor_zero_only}

-- ---- one bit

-- a bit 0 leaves, or a bit 1
crc_bit_low : (r : ℕ) → r < 2 ^ 31 → crc_bit r ≡ r * 2
unfolding crc_bit
crc_bit_low r h = rw (true_is (ltb r (2 ^ 31)) (lt→ltb r (2 ^ 31) h), crc_bit) (mod-eq_of_lt (omega arith))

crc_bit_high : (r : ℕ) → 2 ^ 31 ≤ r → crc_bit r ≡ bit_xor (r * 2 % 2 ^ 32) polynomial
unfolding crc_bit
crc_bit_high r h = rw (false_is (ltb r (2 ^ 31)) (le→nltb r (2 ^ 31) h), crc_bit)

-- both cases in one: the bit that leaves, times the polynomial
crc_bit_form : (r : ℕ) → r < 2 ^ 32 → crc_bit r ≡ bit_xor (r * 2 % 2 ^ 32) (r / 2 ^ 31 * polynomial)
crc_bit_form r h = elim (dec_lt r (2 ^ 31)) [ yes l ↦ low l | no l ↦ high (omega arith) ]
  where
    high : 2 ^ 31 ≤ r → crc_bit r ≡ bit_xor (r * 2 % 2 ^ 32) (r / 2 ^ 31 * polynomial)
    high l = let e : r / 2 ^ 31 ≡ 1 = omega arith in rw e (crc_bit_high r l)

    low : r < 2 ^ 31 → crc_bit r ≡ bit_xor (r * 2 % 2 ^ 32) (r / 2 ^ 31 * polynomial)
    low l = let e : r / 2 ^ 31 ≡ 0 =
        omega arith in rw (e, xor_zero_r) (crc_bit_low r l ∙ sym (mod-eq_of_lt (omega arith)))

pub crc_bit_lt : (r : ℕ) → r < 2 ^ 32 → crc_bit r < 2 ^ 32
crc_bit_lt r h =
    rw (crc_bit_form r h) (xor_lt 32 (r * 2 % 2 ^ 32) (r / 2 ^ 31 * polynomial) (omega arith) (omega arith))

-- a polynomial for each of two bits, or one for their xor
polynomial_xor : (x y : ℕ) → x < 2 → y < 2 → bit_xor x y * polynomial ≡ bit_xor (x * polynomial) (y * polynomial)
polynomial_xor zero y hx hy = refl
polynomial_xor (suc zero) zero hx hy = refl
polynomial_xor (suc zero) (suc zero) hx hy = refl
polynomial_xor (suc zero) (suc (suc y)) hx hy = absurd (omega arith)
polynomial_xor (suc (suc x)) y hx hy = absurd (omega arith)

pub crc_bit_xor : (u v : ℕ) → u < 2 ^ 32 → v < 2 ^ 32 → crc_bit (bit_xor u v) ≡ bit_xor (crc_bit u) (crc_bit v)
crc_bit_xor u v hu hv =
    crc_bit_form (bit_xor u v) (xor_lt 32 u v hu hv) ∙ ap₂ bit_xor moved left
    ∙ xor_swap (u * 2 % 2 ^ 32) (v * 2 % 2 ^ 32) (u / 2 ^ 31 * polynomial) (v / 2 ^ 31 * polynomial)
    ∙ sym (ap₂ bit_xor (crc_bit_form u hu) (crc_bit_form v hv))
  where
    moved : bit_xor u v * 2 % 2 ^ 32 ≡ bit_xor (u * 2 % 2 ^ 32) (v * 2 % 2 ^ 32)
    moved = ap (λ (x : ℕ). x % 2 ^ 32) (sym (xor_shl u v 1)) ∙ xor_mod (u * 2) (v * 2) 32

    left : bit_xor u v / 2 ^ 31 * polynomial ≡ bit_xor (u / 2 ^ 31 * polynomial) (v / 2 ^ 31 * polynomial)
    left = ap (λ (x : ℕ). x * polynomial) (xor_shr u v 31)
        ∙ polynomial_xor (u / 2 ^ 31) (v / 2 ^ 31) (omega arith) (omega arith)

-- only 0 goes to 0: the register moved up is even, and the polynomial is odd
crc_bit_only : (r : ℕ) → r < 2 ^ 32 → crc_bit r ≡ 0 → r ≡ 0
crc_bit_only r h e = elim (dec_lt r (2 ^ 31)) [ yes l ↦ low l | no l ↦ absurd (high (omega arith)) ]
  where
    high : 2 ^ 31 ≤ r → ⊥
    high l =
        let even : r * 2 % 2 ^ 32 ≡ (r - 2 ^ 31) * 2 = omega arith in
        let same : polynomial ≡ (r - 2 ^ 31) * 2 =
        xor_zero_only (r * 2 % 2 ^ 32) polynomial (sym (crc_bit_high r l) ∙ e) ∙ even in
        let odd : ◌≡◌ {A = ℕ} 1 0 = ap (λ (x : ℕ). x % 2) same ∙ mul-mod_left (r - 2 ^ 31) 2 in
        omega arith

    low : r < 2 ^ 31 → r ≡ 0
    low l = omega (arith, crc_bit_low r l)

-- ---- several bits

crc_bits_zero : (r : ℕ) → crc_bits 0 r ≡ r
unfolding crc_bits
crc_bits_zero r = refl

pub crc_bits_lt : (n r : ℕ) → r < 2 ^ 32 → crc_bits n r < 2 ^ 32
unfolding crc_bits
crc_bits_lt zero r h = h
crc_bits_lt (suc n) r h = crc_bits_lt n (crc_bit r) (crc_bit_lt r h)

pub crc_bits_add : (m n r : ℕ) → crc_bits (m + n) r ≡ crc_bits n (crc_bits m r)
unfolding crc_bits
crc_bits_add zero n r = rw zero-add
crc_bits_add (suc m) n r = rw suc-add (crc_bits_add m n (crc_bit r))

pub crc_bits_xor : (n u v : ℕ) → u < 2 ^ 32 → v < 2 ^ 32 → crc_bits n (bit_xor u v) ≡ bit_xor (crc_bits n u) (crc_bits n v)
unfolding crc_bits
crc_bits_xor zero u v hu hv = refl
crc_bits_xor (suc n) u v hu hv =
    ap (crc_bits n) (crc_bit_xor u v hu hv) ∙ crc_bits_xor n (crc_bit u) (crc_bit v) (crc_bit_lt u hu) (crc_bit_lt v hv)

-- bits that do not leave only move up
pub crc_bits_shl : (n r : ℕ) → r * 2 ^ n < 2 ^ 32 → crc_bits n r ≡ r * 2 ^ n
unfolding crc_bits
crc_bits_shl zero r h = sym (mul-one r)
crc_bits_shl (suc n) r h =
    let e : r * 2 ^ suc n ≡ r * 2 * 2 ^ n = ap (λ (x : ℕ). r * x) (pow-succ' 2 n) ∙ sym (mul_assoc r 2 (2 ^ n)) in
    let l : r * 2 ≤ r * 2 * 2 ^ n = le-mul_of_pos_right (r * 2) (pow_pos n) in
    ap (crc_bits n) (crc_bit_low r (omega arith)) ∙ crc_bits_shl n (r * 2) (omega arith) ∙ sym e

crc_bits_only : (n r : ℕ) → r < 2 ^ 32 → crc_bits n r ≡ 0 → r ≡ 0
unfolding crc_bits
crc_bits_only zero r h e = e
crc_bits_only (suc n) r h e = crc_bit_only r h (crc_bits_only n (crc_bit r) (crc_bit_lt r h) e)

-- ---- bytes

-- the definition's equations, so that nothing below opens it: a byte opened is eight tests, one inside the other
pub crc_nil : (r : ℕ) → crc_of r [] ≡ r
unfolding crc_of
crc_nil r = refl

pub crc_cons : (r b : ℕ) (bs : List ℕ) → crc_of r (b ∷ bs) ≡ crc_of (crc_byte r b) bs
unfolding crc_of
crc_cons r b bs = refl

pub crc_byte_bits : (r b : ℕ) → crc_byte r b ≡ crc_bits 8 (bit_xor r (b * 2 ^ 24))
unfolding crc_byte
crc_byte_bits r b = refl

pub crc_byte_lt : (r b : ℕ) → r < 2 ^ 32 → b < 256 → crc_byte r b < 2 ^ 32
crc_byte_lt r b hr hb =
    rw crc_byte_bits (crc_bits_lt 8 (bit_xor r (b * 2 ^ 24)) (xor_lt 32 r (b * 2 ^ 24) hr (omega arith)))

pub crc_lt : (r : ℕ) (bs : List ℕ) → r < 2 ^ 32 → Bytes bs → crc_of r bs < 2 ^ 32
unfolding crc_of
crc_lt r [] hr hb = hr
crc_lt r (b ∷ bs) hr hb = crc_lt (crc_byte r b) bs (crc_byte_lt r b hr hb.0) hb.1

pub crc_append : (r : ℕ) (xs ys : List ℕ) → crc_of r (xs ++ ys) ≡ crc_of (crc_of r xs) ys
unfolding crc_of
crc_append r [] ys = refl
crc_append r (x ∷ xs) ys = crc_append (crc_byte r x) xs ys

-- the high byte of the register decides what a byte adds, and the rest moves up: what a table of 256 entries holds
pub crc_byte_table : (r b : ℕ) → r < 2 ^ 32 → b < 256
    → crc_byte r b ≡ bit_xor (crc_bits 8 (bit_xor (r / 2 ^ 24) b * 2 ^ 24)) (r * 2 ^ 8 % 2 ^ 32)
crc_byte_table r b hr hb =
    crc_byte_bits r b ∙ ap (crc_bits 8) parted
    ∙ crc_bits_xor 8 (high * 2 ^ 24) low (omega (arith, high_lt)) (omega (arith, low_lt))
    ∙ ap (bit_xor (crc_bits 8 (high * 2 ^ 24))) (crc_bits_shl 8 low (omega (arith, low_lt)) ∙ moved)
  where
    high : ℕ
    high = bit_xor (r / 2 ^ 24) b

    low : ℕ
    low = r % 2 ^ 24

    low_lt : low < 2 ^ 24
    low_lt = mod-lt r (pow_pos 24)

    high_lt : high < 2 ^ 8
    high_lt = xor_lt 8 (r / 2 ^ 24) b (omega arith) hb

    parted : bit_xor r (b * 2 ^ 24) ≡ bit_xor (high * 2 ^ 24) low
    parted =
        ap₂ bit_xor (sym (split r 24)) (sym (add-zero (b * 2 ^ 24)))
        ∙ xor_block 24 (r / 2 ^ 24) b low 0 low_lt (pow_pos 24)
        ∙ ap (λ (x : ℕ). high * 2 ^ 24 + x) (xor_zero_r low)
        ∙ sym (xor_shifted high 24 low low_lt)

    moved : low * 2 ^ 8 ≡ r * 2 ^ 8 % 2 ^ 32
    moved = omega arith

-- a number v that waits below the byte b moves up with it
crc_byte_then : (r b v : ℕ) → r < 2 ^ 32 → b < 256 → v < 2 ^ 24
    → bit_xor (crc_byte r b) (v * 2 ^ 8) ≡ crc_bits 8 (bit_xor r (b * 2 ^ 24 + v))
crc_byte_then r b v hr hb hv =
    ap₂ bit_xor (crc_byte_bits r b) (sym (crc_bits_shl 8 v (omega arith)))
    ∙ sym (crc_bits_xor 8 (bit_xor r (b * 2 ^ 24)) v (xor_lt 32 r (b * 2 ^ 24) hr (omega arith)) (omega arith))
    ∙ ap (crc_bits 8) (xor_assoc r (b * 2 ^ 24) v ∙ ap (bit_xor r) (xor_shifted b 24 v hv))

-- the bytes one by one are their number at once, at the high end of the register
crc_number : (r : ℕ) (bs : List ℕ) (j : ℕ) → r < 2 ^ 32 → Bytes bs → 256 ^ length bs * 2 ^ j ≡ 2 ^ 32
    → crc_of r bs ≡ crc_bits (8 * length bs) (bit_xor r (value_of bs * 2 ^ j))
crc_number r [] j hr hb e = crc_nil r ∙ sym (crc_bits_zero (bit_xor r (0 * 2 ^ j)) ∙ rw (zero-mul, xor_zero_r))
crc_number r (b ∷ bs) j hr hb e =
    crc_cons r b bs
    ∙ crc_number (crc_byte r b) bs (j + 8) (crc_byte_lt r b hr hb.0) hb.1
    (up (256 ^ k) ∙ ap (λ (x : ℕ). x * 2 ^ 8) room)
    ∙ ap (λ (x : ℕ). crc_bits (8 * k) (bit_xor (crc_byte r b) x)) (up v)
    ∙ ap (crc_bits (8 * k)) (crc_byte_then r b (v * 2 ^ j) hr hb.0 small)
    ∙ sym (crc_bits_add 8 (8 * k) (bit_xor r (b * 2 ^ 24 + v * 2 ^ j)))
    ∙ ap₂ (λ (n x : ℕ). crc_bits n (bit_xor r x)) (more k) whole
  where
    k : ℕ
    k = length bs

    v : ℕ
    v = value_of bs

    more : (n : ℕ) → 8 + 8 * n ≡ 8 * suc n
    more n = omega arith

    up : (n : ℕ) → n * 2 ^ (j + 8) ≡ n * 2 ^ j * 2 ^ 8
    up n = ap (λ (x : ℕ). n * x) (pow-add 2 j 8) ∙ sym (mul_assoc n (2 ^ j) (2 ^ 8))

    room : 256 ^ k * 2 ^ j ≡ 2 ^ 24
    room = omega (arith, rw (pow-succ' 256 k, mul_assoc) at e)

    small : v * 2 ^ j < 2 ^ 24
    small = rw room at (mul-lt-mul_of_pos_right (value_lt bs hb.1) (pow_pos j))

    whole : b * 2 ^ 24 + v * 2 ^ j ≡ (b * 256 ^ k + v) * 2 ^ j
    whole = rw (add-mul, mul_assoc, room)

-- four bytes are one number of 32 bits
pub crc_four : (r : ℕ) (bs : List ℕ) → r < 2 ^ 32 → length bs ≡ 4 → Bytes bs
    → crc_of r bs ≡ crc_bits 32 (bit_xor r (value_of bs))
crc_four r bs hr four hb =
    crc_number r bs 0 hr hb (ap (λ (n : ℕ). 256 ^ n * 1) four)
    ∙ ap₂ (λ (n x : ℕ). crc_bits (8 * n) (bit_xor r x)) four (mul-one (value_of bs))

-- the register's own bytes bring it to 0
pub crc_leaves_0 : (r : ℕ) → r < 2 ^ 32 → crc_of r (big_endian 4 r) ≡ 0
crc_leaves_0 r h =
    crc_four r (big_endian 4 r) h refl (big_endian_bytes 4 r)
    ∙ ap (λ (x : ℕ). crc_bits 32 (bit_xor r x)) (value_back 4 r h)
    ∙ ap (crc_bits 32) (xor_self r)
    ∙ crc_bits_shl 32 0 (lit< tt)

-- and no other four do
pub crc_only : (r : ℕ) (bs : List ℕ) → r < 2 ^ 32 → length bs ≡ 4 → Bytes bs → crc_of r bs ≡ 0 → bs ≡ big_endian 4 r
crc_only r bs hr four hb e =
    let hv : value_of bs < 2 ^ 32 = rw four at (value_lt bs hb) in
    let last : crc_bits 32 (bit_xor r (value_of bs)) ≡ 0 = sym (crc_four r bs hr four hb) ∙ e in
    let first : bit_xor r (value_of bs) ≡ 0 =
    crc_bits_only 32 (bit_xor r (value_of bs)) (xor_lt 32 r (value_of bs) hr hv) last in
    sym (big_endian_value bs hb) ∙ ap₂ big_endian four (xor_zero_only r (value_of bs) first)

-- ---- a section

pub crc32_of : (bs : List ℕ) → crc32 bs ≡ crc_of crc_first bs
unfolding crc32
crc32_of bs = refl

pub crc32_lt : (bs : List ℕ) → Bytes bs → crc32 bs < 2 ^ 32
crc32_lt bs h = rw crc32_of (crc_lt crc_first bs (lit< tt) h)

pub crc32_append : (xs ys : List ℕ) → crc32 (xs ++ ys) ≡ crc_of (crc32 xs) ys
crc32_append xs ys = simp crc32_of (crc_append crc_first xs ys)

pub crc_right : (bs : List ℕ) → Bytes bs → crc32 (bs ++ big_endian 4 (crc32 bs)) ≡ 0
crc_right bs h = crc32_append bs (big_endian 4 (crc32 bs)) ∙ crc_leaves_0 (crc32 bs) (crc32_lt bs h)

pub crc_right_only : (bs cs : List ℕ) → Bytes bs → Bytes cs → length cs ≡ 4 → crc32 (bs ++ cs) ≡ 0
    → cs ≡ big_endian 4 (crc32 bs)
crc_right_only bs cs hb hc four e = crc_only (crc32 bs) cs (crc32_lt bs hb) four hc (sym (crc32_append bs cs) ∙ e)

-- the usual check value (the digits 1 to 9 in ASCII), one byte 0, and the four bytes that close an empty section
crc_vectors
    : (crc32 (0x31 ∷ 0x32 ∷ 0x33 ∷ 0x34 ∷ 0x35 ∷ 0x36 ∷ 0x37 ∷ 0x38 ∷ 0x39 ∷ []) ≡ 0x0376_E6E7)
    × (crc32 (0x00 ∷ []) ≡ 0x4E08_BFB4) × (crc32 (0xFF ∷ 0xFF ∷ 0xFF ∷ 0xFF ∷ []) ≡ 0)
unfolding crc32
crc_vectors = (refl, refl, refl)
