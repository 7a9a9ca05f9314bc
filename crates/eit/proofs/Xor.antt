-- Bitwise xor is associative, each number is its own inverse, and shifts pass through it: by induction on the binary
-- digits, where the lowest digit of an xor is a sum modulo 2. Assumes nothing.
use mathlib.Core.Path.{◌≡◌, refl, sym, ap, ◌∙◌}
use Prim.Native.Nat.{ℕ, zero, suc, ◌+◌, ◌*◌, ◌/◌, ◌%◌, ◌^◌, ◌<◌}
use native.Mathlib.Nat.{mod-lt, zero-lt-suc, add-zero}
use native.Mathlib.Omega.{arith}
use lib.Arith.{bin_ind}
use lib.Bits.{bit_xor, differ, xor_step, xor_shr, xor_comm, xor_self, xor_zero_r, xor_block}
use lib.Pow.{pow_pos}

-- ---- the lowest digit, and the others

differ_digits : (x y : ℕ) → x < 2 → y < 2 → differ x y ≡ (x + y) % 2
differ_digits zero y hx hy = omega arith
differ_digits (suc zero) zero hx hy = refl
differ_digits (suc zero) (suc zero) hx hy = refl
differ_digits (suc zero) (suc (suc y)) hx hy = absurd (omega arith)
differ_digits (suc (suc x)) y hx hy = absurd (omega arith)

xor_odd : (a b : ℕ) → bit_xor a b % 2 ≡ (a + b) % 2
xor_odd a b =
    let d = differ_digits (a % 2) (b % 2) (mod-lt a (zero-lt-suc 1)) (mod-lt b (zero-lt-suc 1)) in
    omega (arith, xor_step a b)

xor_half : (a b : ℕ) → bit_xor a b / 2 ≡ bit_xor (a / 2) (b / 2)
xor_half a b = xor_shr a b 1

-- ---- associativity

by_digits : (x y : ℕ) → x / 2 ≡ y / 2 → x % 2 ≡ y % 2 → x ≡ y
by_digits x y h l = omega arith

assoc_half : (a b c : ℕ) → bit_xor (bit_xor (a / 2) (b / 2)) (c / 2) ≡ bit_xor (a / 2) (bit_xor (b / 2) (c / 2))
    → bit_xor (bit_xor a b) c / 2 ≡ bit_xor a (bit_xor b c) / 2
assoc_half a b c ih = simp xor_half ih

-- in two steps, each against the plain sum: one `omega` over all four facts stops at its bound
assoc_odd : (a b c : ℕ) → bit_xor (bit_xor a b) c % 2 ≡ bit_xor a (bit_xor b c) % 2
assoc_odd a b c =
    let l : bit_xor (bit_xor a b) c % 2 ≡ (a + b + c) % 2 = omega (arith, xor_odd (bit_xor a b) c, xor_odd a b) in
    let r : bit_xor a (bit_xor b c) % 2 ≡ (a + b + c) % 2 = omega (arith, xor_odd a (bit_xor b c), xor_odd b c) in
    l ∙ sym r

pub xor_assoc : (a b c : ℕ) → bit_xor (bit_xor a b) c ≡ bit_xor a (bit_xor b c)
xor_assoc a =
    bin_ind (λ (n : ℕ). (b c : ℕ) → bit_xor (bit_xor n b) c ≡ bit_xor n (bit_xor b c)) (λ b c. refl)
    (λ n ih b c. by_digits (bit_xor (bit_xor n b) c) (bit_xor n (bit_xor b c)) (assoc_half n b c (ih (b / 2) (c / 2)))
    (assoc_odd n b c)) a

-- ---- what follows

-- the two inner ones of four change places
pub xor_swap : (a b c d : ℕ) → bit_xor (bit_xor a b) (bit_xor c d) ≡ bit_xor (bit_xor a c) (bit_xor b d)
xor_swap a b c d =
    xor_assoc a b (bit_xor c d)
    ∙ ap (bit_xor a) (sym (xor_assoc b c d) ∙ ap (λ (x : ℕ). bit_xor x d) (xor_comm b c) ∙ xor_assoc c b d)
    ∙ sym (xor_assoc a c (bit_xor b d))

pub xor_cancel : (a b : ℕ) → bit_xor a (bit_xor a b) ≡ b
xor_cancel a b = sym (xor_assoc a a b) ∙ ap (λ (x : ℕ). bit_xor x b) (xor_self a)

-- only equal numbers give 0
pub xor_zero_only : (a b : ℕ) → bit_xor a b ≡ 0 → b ≡ a
xor_zero_only a b e = sym (xor_cancel a b) ∙ ap (bit_xor a) e ∙ xor_zero_r a

pub xor_shl : (a b k : ℕ) → bit_xor (a * 2 ^ k) (b * 2 ^ k) ≡ bit_xor a b * 2 ^ k
xor_shl a b k = simp add-zero at (xor_block k a b 0 0 (pow_pos k) (pow_pos k))
