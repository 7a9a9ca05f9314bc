-- A big-endian field and the number it holds say the same, for any width: by induction on the bytes, each step one
-- digit to the base 256 (`mod-mul`, `digits_div`). Assumes nothing.
use mathlib.Core.Path.{◌≡◌, refl, sym, ap, ap₂, ◌∙◌}
use mathlib.Core.List.{List, [], ◌∷◌, ◌++◌}
use Prim.Native.Nat.{ℕ, zero, suc, ◌+◌, ◌*◌, ◌/◌, ◌%◌, ◌^◌, ◌≤◌, ◌<◌}
use native.Mathlib.Omega.{arith}
use native.Mathlib.Nat.{zero-lt-suc, one-le-pow, pow-succ', mod-lt, mod-mod, mod-one, mod-eq_of_lt, add-mul, mul_assoc}
use native.Mathlib.Nat.{add_assoc, zero-add, zero-mul}
use lib.Arith.{digits_lt, digits_div, digits_mod, mod-mul}
use lib.Pow.{pow-add}
use lib.ListN.{length, take, drop, get_or, length-append, length-drop}
use lib.Seq.{length-take-le, take-append-le, drop-append-le}
use Rattle.eit.specs.Fields.{Bytes, big_endian, value_of, bytes_at, field}

-- ---- lists of bytes

pub bytes_append : (xs ys : List ℕ) → Bytes xs → Bytes ys → Bytes (xs ++ ys)
bytes_append [] ys hx hy = hy
bytes_append (x ∷ xs) ys hx hy = (hx.0, bytes_append xs ys hx.1 hy)

pub bytes_parts : (xs ys : List ℕ) → Bytes (xs ++ ys) → Bytes xs × Bytes ys
bytes_parts [] ys bytes = (tt, bytes)
bytes_parts (x ∷ xs) ys bytes =
    let (front, behind) = bytes_parts xs ys bytes.1 in
    ((bytes.0, front), behind)

pub bytes_take : (k : ℕ) (bs : List ℕ) → Bytes bs → Bytes (take k bs)
bytes_take zero bs h = tt
bytes_take (suc k) [] h = tt
bytes_take (suc k) (b ∷ bs) h = (h.0, bytes_take k bs h.1)

pub bytes_drop : (k : ℕ) (bs : List ℕ) → Bytes bs → Bytes (drop k bs)
bytes_drop zero bs h = h
bytes_drop (suc k) [] h = tt
bytes_drop (suc k) (b ∷ bs) h = bytes_drop k bs h.1

pub bytes_at_holds : (bs : List ℕ) → Bytes bs → (k : ℕ) → get_or bs k 0 < 256
bytes_at_holds [] h k = zero-lt-suc 255
bytes_at_holds (b ∷ bs) h zero = h.0
bytes_at_holds (b ∷ bs) h (suc k) = bytes_at_holds bs h.1 k

pub bytes_all : (bs : List ℕ) → ((k : ℕ) → get_or bs k 0 < 256) → Bytes bs
bytes_all [] h = tt
bytes_all (b ∷ bs) h = (h 0, bytes_all bs (λ k. h (suc k)))

-- ---- the field of a number

pow_pos : (w : ℕ) → zero < 256 ^ w
pow_pos w = one-le-pow w 256 (zero-lt-suc 255)

-- the digit at the high end, then the rest
mod_suc : (w n : ℕ) → n % 256 ^ suc w ≡ n / 256 ^ w % 256 * 256 ^ w + n % 256 ^ w
mod_suc w n = rw pow-succ' (mod-mul n (zero-lt-suc 255) (pow_pos w))

pub big_endian_length : (w n : ℕ) → length (big_endian w n) ≡ w
big_endian_length zero n = refl
big_endian_length (suc w) n = ap suc (big_endian_length w n)

pub big_endian_bytes : (w n : ℕ) → Bytes (big_endian w n)
big_endian_bytes zero n = tt
big_endian_bytes (suc w) n = (mod-lt (n / 256 ^ w) (zero-lt-suc 255), big_endian_bytes w n)

pub value_big_endian : (w n : ℕ) → value_of (big_endian w n) ≡ n % 256 ^ w
value_big_endian zero n = sym (mod-one n)
value_big_endian (suc w) n =
    ap₂ (λ (l v : ℕ). n / 256 ^ w % 256 * 256 ^ l + v) (big_endian_length w n) (value_big_endian w n)
    ∙ sym (mod_suc w n)

pub value_back : (w n : ℕ) → n < 256 ^ w → value_of (big_endian w n) ≡ n
value_back w n h = value_big_endian w n ∙ mod-eq_of_lt h

-- a field holds only the digits that it has room for
pub big_endian_mod : (w n : ℕ) → big_endian w (n % 256 ^ w) ≡ big_endian w n
big_endian_mod zero n = refl
big_endian_mod (suc w) n =
    ap₂ (λ (d : ℕ) (ds : List ℕ). d ∷ ds) high
    (sym (big_endian_mod w (n % 256 ^ suc w)) ∙ ap (big_endian w) low ∙ big_endian_mod w n)
  where
    high : n % 256 ^ suc w / 256 ^ w % 256 ≡ n / 256 ^ w % 256
    high = rw (mod_suc, digits_div (n / 256 ^ w % 256) (mod-lt n (pow_pos w)), mod-mod)

    low : n % 256 ^ suc w % 256 ^ w ≡ n % 256 ^ w
    low = rw (mod_suc, digits_mod (n / 256 ^ w % 256) (mod-lt n (pow_pos w)))

-- ---- the number of a field

pub value_lt : (bs : List ℕ) → Bytes bs → value_of bs < 256 ^ length bs
value_lt [] h = zero-lt-suc 0
value_lt (b ∷ bs) h = rw pow-succ' (digits_lt h.0 (value_lt bs h.1))

pub big_endian_value : (bs : List ℕ) → Bytes bs → big_endian (length bs) (value_of bs) ≡ bs
big_endian_value [] h = refl
big_endian_value (b ∷ bs) h =
    let v = value_of bs in
    let lt : v < 256 ^ length bs = value_lt bs h.1 in
    let high : (b * 256 ^ length bs + v) / 256 ^ length bs % 256 ≡ b = rw digits_div (mod-eq_of_lt h.0) in
    let low : (b * 256 ^ length bs + v) % 256 ^ length bs ≡ v = digits_mod b lt in
    ap₂ (λ (d : ℕ) (ds : List ℕ). d ∷ ds) high
    (sym (big_endian_mod (length bs) (b * 256 ^ length bs + v)) ∙ ap (big_endian (length bs)) low
    ∙ big_endian_value bs h.1)

pub value_append : (xs ys : List ℕ) → value_of (xs ++ ys) ≡ value_of xs * 256 ^ length ys + value_of ys
value_append [] ys = rw (zero-mul, zero-add)
value_append (x ∷ xs) ys = rw (value_append xs ys, length-append xs ys, pow-add) (simp (add-mul, mul_assoc, add_assoc))

-- ---- a field of any width at any place in some bytes

pub field_length : (bs : List ℕ) (at width : ℕ) → at + width ≤ length bs → length (bytes_at at width bs) ≡ width
field_length bs at width room = length-take-le width (drop at bs) (simp length-drop (omega arith))

-- other bytes behind those of a field change nothing
pub field_append : (bs rest : List ℕ) (at width : ℕ) → at + width ≤ length bs
    → field at width (bs ++ rest) ≡ field at width bs
field_append bs rest at width room =
    ap value_of
    (ap (take width) (drop-append-le at bs rest (omega arith))
    ∙ take-append-le width (drop at bs) rest (simp length-drop (omega arith)))

module _ (bs : List ℕ) (bytes : Bytes bs) where
  pub field_bytes : (at width : ℕ) → Bytes (bytes_at at width bs)
  field_bytes at width = bytes_take width (drop at bs) (bytes_drop at bs bytes)

  pub field_fits : (at width : ℕ) → at + width ≤ length bs → field at width bs < 256 ^ width
  field_fits at width room =
      rw (field_length bs at width room) at (value_lt (bytes_at at width bs) (field_bytes at width))

  pub field_forth : (at width : ℕ) → at + width ≤ length bs → big_endian width (field at width bs) ≡ bytes_at at width bs
  field_forth at width room =
      rw (field_length bs at width room) at (big_endian_value (bytes_at at width bs) (field_bytes at width))

-- computed: the high byte comes first
pub field_examples : (big_endian 2 0x1234 ≡ 0x12 ∷ 0x34 ∷ [])
    × (big_endian 4 0x0102_0304 ≡ 0x01 ∷ 0x02 ∷ 0x03 ∷ 0x04 ∷ [])
    × (value_of (0x12 ∷ 0x34 ∷ []) ≡ 0x1234)
field_examples = (refl, refl, refl)
