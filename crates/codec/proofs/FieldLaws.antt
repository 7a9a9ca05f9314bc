-- Fields byte by byte: reading one more byte shifts the number by a digit to the base 256, writing one more takes the
-- next digit off. Assumes nothing.
use Prim.Native.Nat.{ℕ, zero, suc, ◌+◌, ◌-◌, ◌*◌, ◌/◌, ◌%◌, ◌^◌, ◌≤◌, ◌<◌}
use mathlib.Core.List.{List, [], ◌∷◌}
use mathlib.Core.Path.{◌≡◌, sym, ap, ◌∙◌}
use native.Mathlib.Nat.{zero-lt-suc, mod-eq_of_lt, pow-le-pow_right, pow-suc, div-div-eq-div-mul, lt_of_lt_of_le}
use native.Mathlib.Omega.{arith}
use lib.ListN.{length, take, drop, get_or, set, length-take, length-drop, drop_of_length-le}
use lib.Seq.{take-suc, take_all, take-nil, take-length}
use Rattle.eit.specs.Fields.{Bytes, big_endian, value_of, bytes_at, field}
use Rattle.eit.specs.Overwrite.{overwrite}
use Rattle.eit.proofs.Fields.{big_endian_length, value_append, value_lt, field_bytes}
use Rattle.eit.proofs.Overwrite.{over_nothing}
use Rattle.codec.specs.Write.{write_at}
use Rattle.codec.proofs.WriteLaws.{write_fits, over_prepend}

-- ---- parts of parts

pub drop_take : {A : Type 0} (m n : ℕ) (xs : List A) → drop m (take n xs) ≡ take (n - m) (drop m xs)
drop_take zero n xs = let all : n - 0 ≡ n = omega arith in rw all
drop_take (suc m) zero xs = let nothing : 0 - suc m ≡ 0 = omega arith in rw nothing
drop_take (suc m) (suc n) [] = sym (take-nil (suc n - suc m))
drop_take (suc m) (suc n) (x ∷ xs) =
    let one_less : suc n - suc m ≡ n - m = omega arith in rw one_less (drop_take m n xs)

-- ---- reading

-- the bytes from an offset on, as a part to the end has them
pub rest_whole : (bs : List ℕ) (at : ℕ) → take (length bs - at) (drop at bs) ≡ drop at bs
rest_whole bs at = take_all (length bs - at) (drop at bs) (simp length-drop (omega arith))

-- a field that is whole, and one that is truncated
pub field_whole : (bs : List ℕ) (at width : ℕ) → take width (take (length bs - at) (drop at bs)) ≡ bytes_at at width bs
field_whole bs at width = ap (take width) (rest_whole bs at)

pub field_truncated : (bs : List ℕ) (at width : ℕ) → length (take (length bs - at) (drop at bs)) ≤ width
    → take (length (take (length bs - at) (drop at bs))) (take (length bs - at) (drop at bs)) ≡ bytes_at at width bs
field_truncated bs at width truncated =
    let rest : List ℕ = take (length bs - at) (drop at bs) in
    take-length rest ∙ sym (take_all width rest truncated) ∙ field_whole bs at width

pub field_none : (bs : List ℕ) (at width : ℕ) → length bs ≤ at → field at width bs ≡ 0
field_none bs at width past =
    ap (λ (rest : List ℕ). value_of (take width rest)) (drop_of_length-le bs past) ∙ ap value_of (take-nil width)

-- one byte more
pub value_more : (bs : List ℕ) (i : ℕ) → i < length bs
    → value_of (take (suc i) bs) ≡ value_of (take i bs) * 256 + get_or bs i 0
value_more bs i inside =
    ap value_of (take-suc bs i 0 inside) ∙ value_append (take i bs) (get_or bs i 0 ∷ []) ∙ omega arith

-- the same, of the low 32 bits, and the sum does not wrap
shift_add : (v b : ℕ) → b < 256 → v % 2 ^ 32 * 256 % 2 ^ 32 + b ≡ (v * 256 + b) % 2 ^ 32
shift_add v b byte = omega arith

pub read_more : (bs : List ℕ) (i v : ℕ) → i < length bs → get_or bs i 0 < 256 → v ≡ value_of (take i bs) % 2 ^ 32
    → v * 2 ^ 8 % 2 ^ 32 + get_or bs i 0 ≡ value_of (take (i + 1) bs) % 2 ^ 32
read_more bs i v inside byte so_far =
    let more : i + 1 ≡ suc i = omega arith in
    rw (so_far, more, value_more bs i inside) (shift_add (value_of (take i bs)) (get_or bs i 0) byte)

pub read_fits : (v b : ℕ) → b < 256 → v * 2 ^ 8 % 2 ^ 32 + b < 2 ^ 32
read_fits v b byte = omega arith

-- a field, also one that is truncated, holds no more than its width
pub field_small : (bs : List ℕ) (at width : ℕ) → Bytes bs → field at width bs < 256 ^ width
field_small bs at width bytes =
    let few : length (bytes_at at width bs) ≤ width = simp length-take (omega arith) in
    lt_of_lt_of_le (value_lt (bytes_at at width bs) (field_bytes bs bytes at width))
    (pow-le-pow_right (zero-lt-suc 255) few)

-- and a field of up to four bytes no more than 32 bits
pub field_exact : (bs : List ℕ) (at width : ℕ) → Bytes bs → width ≤ 4 → field at width bs % 2 ^ 32 ≡ field at width bs
field_exact bs at width bytes narrow =
    mod-eq_of_lt (lt_of_lt_of_le (field_small bs at width bytes) (pow-le-pow_right (zero-lt-suc 255) narrow))

-- what `read_field` returns of a field of up to four bytes
pub field_read : (bs : List ℕ) (at width : ℕ) {r : ℕ} → Bytes bs → width ≤ 4 → r ≡ field at width bs % 2 ^ 32
    → (r ≡ field at width bs) × (r < 256 ^ width)
field_read bs at width bytes narrow read =
    let whole = read ∙ field_exact bs at width bytes narrow in
    (whole, rw whole (field_small bs at width bytes))

-- ---- writing

-- the number without one digit more
digits_less : (n w : ℕ) → n / 256 ^ w / 256 ≡ n / 256 ^ suc w
digits_less n w = rw (div-div-eq-div-mul, pow-suc)

-- nothing is written yet
module _ (d : List ℕ) (at width value : ℕ) where
  no_digit : width - width ≡ 0
  no_digit = omega arith

  pub write_none : d ≡ overwrite d (at + width) (big_endian (width - width) value)
  write_none = rw no_digit (sym (over_nothing d (at + width)))

  pub rest_none : value ≡ value / 256 ^ (width - width)
  rest_none = rw no_digit (omega arith)

  -- and all is
  pub write_all : {out : List ℕ} {left : ℕ} → left ≡ 0 → at + width ≤ length d
      → out ≡ overwrite d (at + left) (big_endian (width - left) value)
      → out ≡ write_at d at (big_endian width value)
  write_all {out} {left} done fits so_far =
      let place : at + left ≡ at = omega arith in
      let digits : width - left ≡ width = omega arith in
      let size : length (big_endian width value) ≡ width = big_endian_length width value in
      so_far ∙ rw (place, digits) (sym (write_fits d at (big_endian width value) (omega arith)))

-- a field of which all bytes but the first `left` are written, and one byte more
module _ (d : List ℕ) (at width value left : ℕ) (fits : at + width ≤ length d) (some : 0 < left)
    (inside : left ≤ width) where
  next : width - (left - 1) ≡ suc (width - left)
  next = omega arith

  pub write_more : {out : List ℕ} {rest : ℕ} → out ≡ overwrite d (at + left) (big_endian (width - left) value)
      → rest ≡ value / 256 ^ (width - left)
      → set out (at + (left - 1)) (rest % 256) ≡ overwrite d (at + (left - 1)) (big_endian (width - (left - 1)) value)
  write_more so_far less =
      let place : at + left ≡ suc (at + (left - 1)) = omega arith in
      let written : List ℕ = big_endian (width - left) value in
      let size : length written ≡ width - left = big_endian_length (width - left) value in
      rw (so_far, less, next, place)
      (over_prepend d (at + (left - 1)) (value / 256 ^ (width - left) % 256) written (omega arith))

  pub rest_less : {rest : ℕ} → rest ≡ value / 256 ^ (width - left) → rest / 256 ≡ value / 256 ^ (width - (left - 1))
  rest_less less = rw (less, next) (digits_less value (width - left))
