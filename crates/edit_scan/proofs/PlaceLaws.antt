-- A set of places holds a place or not as it was last told, and keeps all others: a word without a bit gets it back as
-- a number is added to a set. Assumes nothing.
use mathlib.Core.Path.{◌≡◌, refl, sym, ap, ◌∙◌}
use mathlib.Core.Bool.{Bool, true, false}
use mathlib.Core.Logic.{⊎_elim}
use mathlib.Core.List.{List, [], ◌∷◌}
use Prim.Native.Nat.{ℕ, ◌+◌, ◌*◌, ◌/◌, ◌%◌, ◌^◌, ◌≤◌, ◌<◌}
use native.Mathlib.Nat.{add-div_right, div-eq_of_lt, zero-div, zero-mul, one-mul}
use native.Mathlib.Omega.{arith}
use mir.Val.{bool_byte}
use borrow.Author.Tests.{ne_eqb}
use lib.ListN.{length, get_or, set, length-set, get_or-eq_default}
use lib.Pow.{pow_pos, shl_exact}
use lib.Seq.{get_or-set_same, set-get_or, set-set, set_out}
use Rattle.std.proofs.Common.{w64, bit_and, bit_or}
use Rattle.std.specs.Int.{bit_at, bit_not}
use Rattle.std.specs.Int.Bits.{and_zero_r}
use Rattle.std.proofs.lemmas.Nat.{or_disjoint, or_lt, and_le_l}
use Rattle.std.proofs.lemmas.Nat.Bits.{bit_at_and, bit_at_or, bit_at-pow_same, bit_at-pow_other, and_pow, bit_at-lt}
use Rattle.std.proofs.lemmas.Nat.Bits.{bit_at_clear_same, bit_at_clear_other, same_from_bits_below}
use Rattle.eit.proofs.Test.{le_or_lt, eq_or_not}
use Rattle.codec.specs.Seen.{is_seen, with_seen}
use Rattle.codec.proofs.SeenLaws.{seen_bit, with_seen_new, with_seen_room, seen_same, seen_other}
use Rattle.edit_scan.specs.Places.{bit_in, with_bit, with_place}

-- ---- a bit of a word

module _ (word j : ℕ) where
  no_bit : word / 2 ^ j % 2 ≡ 0 → bit_in word j ≡ 0
  no_bit z = ap (λ (n : ℕ). n * 2 ^ j) z ∙ zero-mul (2 ^ j)

  a_bit : (word / 2 ^ j % 2 ≡ 0 → ⊥) → bit_in word j ≡ 2 ^ j
  a_bit s =
      let one : word / 2 ^ j % 2 ≡ 1 = omega (arith, s) in
      ap (λ (n : ℕ). n * 2 ^ j) one ∙ one-mul (2 ^ j)

  -- a bit that is set has its value in the word
  held : (word / 2 ^ j % 2 ≡ 0 → ⊥) → 2 ^ j ≤ word
  held s =
      ⊎_elim (λ h. h) (λ less. absurd (s (ap (λ (n : ℕ). n % 2) (div-eq_of_lt less)))) (le_or_lt (2 ^ j) word)

  pub bit_within : bit_in word j ≤ word
  bit_within =
      ⊎_elim (λ z. omega (arith, no_bit z)) (λ s. omega (arith, a_bit s, held s)) (eq_or_not (word / 2 ^ j % 2) 0)

  -- the word without the bit: what it is, and how the word comes back
  lacks_none : word / 2 ^ j % 2 ≡ 0 → with_bit word j false ≡ word
  lacks_none z = omega (arith, no_bit z)

  lacks_one : (word / 2 ^ j % 2 ≡ 0 → ⊥) → with_bit word j false + 2 ^ j ≡ word
  lacks_one s = omega (arith, a_bit s, held s)

  lacks_it : with_bit word j false / 2 ^ j % 2 ≡ 0
  lacks_it =
      ⊎_elim (λ z. ap (λ (n : ℕ). n / 2 ^ j % 2) (lacks_none z) ∙ z)
      (λ s.
      omega (arith, add-div_right (with_bit word j false) (pow_pos j), ap (λ (n : ℕ). n / 2 ^ j) (lacks_one s), s))
      (eq_or_not (word / 2 ^ j % 2) 0)

  -- as the bit is shifted, and what has room for it
  module _ (small : j < 64) where
    pub bit_moved : word / 2 ^ j % 2 * 2 ^ j % 2 ^ 64 ≡ bit_in word j
    bit_moved = shl_exact {a = word / 2 ^ j % 2} 1 j 64 (omega arith) (omega arith)

    pub bit_room : (b : Bool) → word < 2 ^ 64 → with_bit word j b < 2 ^ 64
    bit_room true h =
        let first : j / 64 ≡ 0 = omega arith in
        let same : j % 64 ≡ j = omega arith in
        let clear : seen_bit (with_bit word j false ∷ []) j ≡ 0 = rw (first, same) lacks_it in
        rw (first, same) at (with_seen_room (with_bit word j false ∷ []) j clear (rw first (omega arith)))
    bit_room false h = omega arith

  -- as the code takes the bit out and puts it in
  module _ (small : j < 64) (fits : word < 2 ^ 64) where
    abbrev without : ℕ
    without = bit_and word (bit_not w64 (1 * 2 ^ j % 2 ^ 64))

    one_shifted : 1 * 2 ^ j % 2 ^ 64 ≡ 2 ^ j
    one_shifted = shl_exact {a = 1} 1 j 64 (omega arith) (omega arith) ∙ one-mul (2 ^ j)

    lacks_bit : bit_and without (2 ^ j) ≡ 0
    lacks_bit = and_pow without j ∙ ap (λ (n : ℕ). n * 2 ^ j) (bit_at_clear_same w64 word j small) ∙ zero-mul (2 ^ j)

    apart : bit_and without (bit_in word j) ≡ 0
    apart =
        ⊎_elim (λ z. rw (no_bit z) (and_zero_r without)) (λ s. rw (a_bit s) lacks_bit) (eq_or_not (word / 2 ^ j % 2) 0)

    bit_back : (i : ℕ) → i < 64 → bit_at (bit_or without (bit_and word (2 ^ j))) i ≡ bit_at word i
    bit_back i h =
        rw (bit_at_or, bit_at_and word (2 ^ j) i)
        (⊎_elim
        (λ e. rw e
        (omega (arith, bit_at_clear_same w64 word j small, bit_at-pow_same j, bit_at-lt word j)))
        (λ ne. omega (arith, bit_at_clear_other w64 word j small i h ne, bit_at-pow_other j i ne, bit_at-lt word i))
        (eq_or_not i j))

    comes_back : without + bit_in word j ≡ word
    comes_back =
        sym (or_disjoint without (bit_in word j) apart)
        ∙ ap (bit_or without) (sym (and_pow word j))
        ∙ same_from_bits_below 64 (bit_or without (bit_and word (2 ^ j))) word
        (or_lt 64 without (bit_and word (2 ^ j)) (omega (arith, and_le_l word (bit_not w64 (1 * 2 ^ j % 2 ^ 64))))
        (omega (arith, and_le_l word (2 ^ j))))
        fits bit_back

    pub bit_told : (b : Bool) → bit_or without (bool_byte b * 2 ^ j % 2 ^ 64) ≡ with_bit word j b
    bit_told true =
        let back : without + 2 ^ j ≡ with_bit word j true = omega (arith, comes_back) in
        ap (bit_or without) one_shifted ∙ or_disjoint without (2 ^ j) lacks_bit ∙ back
    bit_told false =
        let back : without + 0 ≡ with_bit word j false = omega (arith, comes_back) in
        ap (λ (n : ℕ). bit_or without (n % 2 ^ 64)) (zero-mul (2 ^ j)) ∙ or_disjoint without 0 (and_zero_r without) ∙ back

-- ---- a place

module _ (places : List ℕ) (i : ℕ) where
  pub place_length : (b : Bool) → length (with_place places i b) ≡ length places
  unfolding with_place
  place_length b = length-set places (i / 64) _

  -- a place for which there is no word
  pub place_outside : (b : Bool) → length places ≤ i / 64 → with_place places i b ≡ places
  unfolding with_place
  place_outside b h = set_out places (i / 64) _ h

  abbrev word : ℕ
  word = get_or places (i / 64) 0

  abbrev cleared : List ℕ
  cleared = with_place places i false

  cleared_unset : seen_bit cleared i ≡ 0
  unfolding with_place
  cleared_unset =
      ⊎_elim
      (λ h.
      rw (set_out places (i / 64) (with_bit word (i % 64) false) h, get_or-eq_default places 0 h, zero-div) refl)
      (λ h. rw (get_or-set_same places (i / 64) (with_bit word (i % 64) false) 0 h) (lacks_it word (i % 64)))
      (le_or_lt (length places) (i / 64))

  -- to put a place in is to take it out and add it
  told_in : with_seen cleared i ≡ with_place places i true
  unfolding with_place
  told_in =
      with_seen_new cleared i cleared_unset
      ∙ set-set places (i / 64) (with_bit word (i % 64) false) _
      ∙ ⊎_elim (λ h. set_out places (i / 64) _ h ∙ sym (set_out places (i / 64) _ h))
      (λ h.
      ap (λ (n : ℕ). set places (i / 64) (n + 2 ^ (i % 64)))
      (get_or-set_same places (i / 64) (with_bit word (i % 64) false) 0 h))
      (le_or_lt (length places) (i / 64))

  -- a set that has the place comes back so
  was_in : (seen_bit places i ≡ 0 → ⊥) → with_seen cleared i ≡ places
  unfolding with_place
  was_in s = told_in ∙ ap (set places (i / 64)) (lacks_one word (i % 64) s) ∙ set-get_or places (i / 64) 0

  was_out : seen_bit places i ≡ 0 → cleared ≡ places
  unfolding with_place
  was_out z = ap (set places (i / 64)) (lacks_none word (i % 64) z) ∙ set-get_or places (i / 64) 0

  cleared_other : (n : ℕ) → (n ≡ i → ⊥) → is_seen cleared n ≡ is_seen places n
  cleared_other n ne =
      ⊎_elim (λ z. ap (λ (ps : List ℕ). is_seen ps n) (was_out z))
      (λ s. sym (seen_other cleared i n ne) ∙ ap (λ (ps : List ℕ). is_seen ps n) (was_in s))
      (eq_or_not (seen_bit places i) 0)

  pub place_same : (b : Bool) → i < 64 * length places → is_seen (with_place places i b) i ≡ b
  place_same true h =
      ap (λ (ps : List ℕ). is_seen ps i) (sym told_in) ∙ seen_same cleared i (omega (arith, place_length false))
  place_same false h = ne_eqb (seen_bit cleared i) 1 (λ one. omega (arith, cleared_unset))

  pub place_other : (b : Bool) (n : ℕ) → (n ≡ i → ⊥) → is_seen (with_place places i b) n ≡ is_seen places n
  place_other true n ne =
      ap (λ (ps : List ℕ). is_seen ps n) (sym told_in) ∙ seen_other cleared i n ne ∙ cleared_other n ne
  place_other false n ne = cleared_other n ne
