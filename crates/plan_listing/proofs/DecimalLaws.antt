-- A number in decimal as the kit's `io` makes it, the fewest digits that hold it, is the number in decimal as the
-- definition has it: by induction over the digits. Assumes nothing.
use Prim.Native.Nat.{ℕ, zero, suc, ◌+◌, ◌-◌, ◌*◌, ◌/◌, ◌%◌, ◌^◌, ◌≤◌, ◌<◌}
use mathlib.Core.List.{List, [], ◌∷◌, ◌++◌}
use mathlib.Core.Path.{◌≡◌, sym, ap, ap₂, ◌∙◌}
use native.Mathlib.Nat.{pow-suc, one-le-pow}
use native.Mathlib.Omega.{arith}
use borrow.Author.Tests.{lt-ltb, le-ltb}
use Rattle.io.specs.Digits.{hex_digit_ascii, last_digits, IsDigitCount}
use Rattle.plan_listing.specs.Listing.{decimal_up_to, decimal_of}

-- ---- the definition, step by step

module _ (most n : ℕ) where
  pub decimal_one : n < 10 → decimal_up_to (suc most) n ≡ (48 + n) ∷ []
  unfolding decimal_up_to
  decimal_one small = rw (decimal_up_to, lt-ltb n 10 small)

  pub decimal_more : 10 ≤ n → decimal_up_to (suc most) n ≡ decimal_up_to most (n / 10) ++ ((48 + n % 10) ∷ [])
  unfolding decimal_up_to
  decimal_more large = rw (decimal_up_to, le-ltb n 10 large)

-- ---- the kit's digits

glyph_digit : (d : ℕ) → d < 10 → hex_digit_ascii d ≡ 48 + d
glyph_digit d small = rw (lt-ltb d 10 small)

-- of two digits and more
fewest_less : (k n : ℕ) → IsDigitCount 10 1 n (suc (suc k)) → (10 ≤ n) × IsDigitCount 10 1 (n / 10) (suc k)
fewest_less k n (least, holds, few) =
    let one : 0 < 10 ^ k = one-le-pow k 10 (omega arith) in
    let two : 10 ^ suc k ≡ 10 ^ k * 10 = pow-suc 10 k in
    let three : 10 ^ suc (suc k) ≡ 10 ^ suc k * 10 = pow-suc 10 (suc k) in
    let back : suc k - 1 ≡ k = omega arith in
    let front : suc (suc k) - 1 ≡ suc k = omega arith in
    let low : 10 ^ suc k ≤ n = rw front at (few (omega arith)) in
    (omega arith, (omega arith, omega arith, λ _. rw back (omega arith)))

digits_decimal : (k n most : ℕ) → n ≤ most → IsDigitCount 10 1 n k → last_digits 10 k n ≡ decimal_up_to (suc most) n
digits_decimal zero n most enough (least, holds, few) = absurd (omega arith)
digits_decimal (suc zero) n most enough (least, holds, few) =
    let digit : n % 10 ≡ n = omega arith in
    rw (digit, decimal_one most n (omega arith)) (ap (λ (b : ℕ). b ∷ []) (glyph_digit n (omega arith)))
digits_decimal (suc (suc k)) n zero enough fewest = absurd (omega (arith, (fewest_less k n fewest).0))
digits_decimal (suc (suc k)) n (suc most) enough fewest =
    let (large, less) = fewest_less k n fewest in
    ap₂ (λ (high : List ℕ) (low : ℕ). high ++ (low ∷ []))
    (digits_decimal (suc k) (n / 10) most (omega arith) less)
    (glyph_digit (n % 10) (omega arith))
    ∙ sym (decimal_more (suc most) n large)

pub decimal_is : (n k : ℕ) → IsDigitCount 10 1 n k → last_digits 10 k n ≡ decimal_of n
unfolding decimal_of
decimal_is n k fewest = digits_decimal k n n (omega arith) fewest
