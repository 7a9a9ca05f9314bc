-- A set of numbers in words of 64 bits holds what was added to it and nothing else, for any number of words: adding a
-- bit that is 0 changes no other bit of its word (`bit_below`, `bit_above`), and no other word. Assumes nothing.
use mathlib.Core.Path.{◌≡◌, refl, sym, ap, ◌∙◌}
use mathlib.Core.Bool.{true, false}
use mathlib.Core.Logic.{⊎_elim}
use mathlib.Core.List.{List, [], ◌∷◌}
use Prim.Native.Nat.{ℕ, suc, ◌+◌, ◌-◌, ◌*◌, ◌/◌, ◌%◌, ◌^◌, ◌≤◌, ◌<◌}
use native.Mathlib.Nat.{add-div_right, add-mul-div_right, add-mul-mod_self_left, one-mul, pow-succ', zero-div}
use native.Mathlib.Omega.{arith}
use borrow.Author.Tests.{eq-eqb, ne_eqb}
use lib.Dec.{eqb}
use lib.ListN.{length, get_or, set, replicate, length-set, get_or-eq_default, get_or-replicate, length-replicate}
use lib.Pow.{pow_pos, pow-add, shl_exact, shr-shr}
use lib.Seq.{get_or-set_same, get_or-set_other, set_out}
use Rattle.eit.specs.Among.{is_among}
use Rattle.eit.proofs.Test.{le_or_lt, eq_or_not}
use Rattle.codec.specs.Seen.{SeenAre, is_seen, with_seen}

-- ---- a bit of a word

-- the machine's shift gives the bit of n whole
pub bit_shifted : (n : ℕ) → 1 * 2 ^ (n % 64) % 2 ^ 64 ≡ 2 ^ (n % 64)
bit_shifted n = shl_exact {a = 1} 1 (n % 64) 64 (omega arith) (omega arith) ∙ one-mul (2 ^ (n % 64))

module _ (word j : ℕ) (clear : word / 2 ^ j % 2 ≡ 0) where
  bit_same : (word + 2 ^ j) / 2 ^ j % 2 ≡ 1
  bit_same = rw (add-div_right word (pow_pos j)) (omega arith)

  -- what stands above the bit stays
  above : (d : ℕ) → (word + 2 ^ j) / 2 ^ (j + (1 + d)) ≡ word / 2 ^ (j + (1 + d))
  above d =
      let half : (word + 2 ^ j) / 2 ^ j / 2 ≡ word / 2 ^ j / 2 = omega (arith, add-div_right word (pow_pos j)) in
      parts (word + 2 ^ j) ∙ ap (λ (n : ℕ). n / 2 ^ d) half ∙ sym (parts word)
    where
      parts : (n : ℕ) → n / 2 ^ (j + (1 + d)) ≡ n / 2 ^ j / 2 / 2 ^ d
      parts n = sym (shr-shr (n / 2 ^ j) 1 d ∙ shr-shr n j (1 + d))

  bit_above : (i : ℕ) → j < i → (word + 2 ^ j) / 2 ^ i ≡ word / 2 ^ i
  bit_above i h = let e : i ≡ j + (1 + (i - suc j)) = omega arith in rw e (above (i - suc j))

  -- what is added is even below the bit
  below : (i d : ℕ) → j ≡ suc d + i → (word + 2 ^ j) / 2 ^ i % 2 ≡ word / 2 ^ i % 2
  below i d e =
      let more : 2 ^ j ≡ 2 * 2 ^ d * 2 ^ i = rw (e, pow-add 2 (suc d) i, pow-succ') in
      rw (more, add-mul-div_right word (2 * 2 ^ d) (pow_pos i)) (add-mul-mod_self_left (word / 2 ^ i) 2 (2 ^ d))

  bit_below : (i : ℕ) → i < j → (word + 2 ^ j) / 2 ^ i % 2 ≡ word / 2 ^ i % 2
  bit_below i h = below i (j - suc i) (omega arith)

  bit_other : (i : ℕ) → (i ≡ j → ⊥) → (word + 2 ^ j) / 2 ^ i % 2 ≡ word / 2 ^ i % 2
  bit_other i ne =
      ⊎_elim (λ h. bit_below i (omega (arith, ne))) (λ h. ap (λ (n : ℕ). n % 2) (bit_above i h)) (le_or_lt i j)

  -- a word that lacks one of its 64 bits has room for it
  bit_room : word < 2 ^ 64 → j < 64 → word + 2 ^ j < 2 ^ 64
  bit_room w h = omega (arith, bit_above 64 h)

-- ---- a number

-- the bit of n, which `is_seen` tests
abbrev pub seen_bit : List ℕ → ℕ → ℕ
seen_bit words n = get_or words (n / 64) 0 / 2 ^ (n % 64) % 2

module _ (words : List ℕ) (n : ℕ) where
  outside : length words ≤ n / 64 → seen_bit words n ≡ 0
  outside h = rw (get_or-eq_default words 0 h, zero-div) refl

  clear_is : seen_bit words n ≡ 0 → is_seen words n ≡ false
  clear_is e = ne_eqb (seen_bit words n) 1 (λ one. omega arith)

  set_is : (seen_bit words n ≡ 0 → ⊥) → is_seen words n ≡ true
  set_is ne = eq-eqb (seen_bit words n) 1 (omega (arith, ne))

  pub seen_outside : length words ≤ n / 64 → is_seen words n ≡ false
  seen_outside h = clear_is (outside h)

  pub with_seen_old : (seen_bit words n ≡ 0 → ⊥) → with_seen words n ≡ words
  unfolding with_seen
  with_seen_old ne = rw (with_seen, set_is ne)

  pub with_seen_new : seen_bit words n ≡ 0 → with_seen words n ≡ set words (n / 64) (get_or words (n / 64) 0 + 2 ^ (n % 64))
  unfolding with_seen
  with_seen_new e = rw (with_seen, clear_is e)

  pub with_seen_room : seen_bit words n ≡ 0 → get_or words (n / 64) 0 < 2 ^ 64
      → get_or words (n / 64) 0 + 2 ^ (n % 64) < 2 ^ 64
  with_seen_room e h = bit_room (get_or words (n / 64) 0) (n % 64) e h (omega arith)

  pub with_seen_outside : length words ≤ n / 64 → with_seen words n ≡ words
  with_seen_outside h = with_seen_new (outside h) ∙ set_out words (n / 64) _ h

  pub seen_length : length (with_seen words n) ≡ length words
  seen_length =
      ⊎_elim (λ e. ap length (with_seen_new e) ∙ length-set words (n / 64) _) (λ ne. ap length (with_seen_old ne))
      (eq_or_not (seen_bit words n) 0)

  pub seen_same : n / 64 < length words → is_seen (with_seen words n) n ≡ true
  seen_same h =
      ⊎_elim
      (λ e.
      rw (with_seen_new e, get_or-set_same words (n / 64) (get_or words (n / 64) 0 + 2 ^ (n % 64)) 0 h)
      (eq-eqb _ 1 (bit_same (get_or words (n / 64) 0) (n % 64) e)))
      (λ ne. ap (λ (ws : List ℕ). is_seen ws n) (with_seen_old ne) ∙ set_is ne)
      (eq_or_not (seen_bit words n) 0)

  pub seen_other : (m : ℕ) → (m ≡ n → ⊥) → is_seen (with_seen words n) m ≡ is_seen words m
  seen_other m ne =
      ⊎_elim (λ e. rw (with_seen_new e) (added e)) (λ old. ap (λ (ws : List ℕ). is_seen ws m) (with_seen_old old))
      (eq_or_not (seen_bit words n) 0)
    where
      word : ℕ
      word = get_or words (n / 64) 0

      same_word : seen_bit words n ≡ 0 → n / 64 < length words → m / 64 ≡ n / 64
          → is_seen (set words (n / 64) (word + 2 ^ (n % 64))) m ≡ is_seen words m
      same_word clear h e =
          let apart : m % 64 ≡ n % 64 → ⊥ = λ d. ne (omega arith) in
          rw (e, get_or-set_same words (n / 64) (word + 2 ^ (n % 64)) 0 h)
          (ap (λ (bit : ℕ). eqb bit 1) (bit_other word (n % 64) clear (m % 64) apart))

      added : seen_bit words n ≡ 0 → is_seen (set words (n / 64) (word + 2 ^ (n % 64))) m ≡ is_seen words m
      added clear =
          ⊎_elim
          (λ e.
          ⊎_elim (λ h. rw (set_out words (n / 64) (word + 2 ^ (n % 64)) h)) (λ h. same_word clear h e)
          (le_or_lt (length words) (n / 64)))
          (λ e. rw (get_or-set_other words (n / 64) (m / 64) (word + 2 ^ (n % 64)) 0 e)) (eq_or_not (m / 64) (n / 64))

-- ---- a pass that adds number by number

pub seen_none : (k n : ℕ) → is_seen (replicate k 0) n ≡ false
seen_none k n =
    ⊎_elim (λ h. seen_outside (replicate k 0) n (rw length-replicate h))
    (λ h. rw (get_or-replicate {A = ℕ} k (n / 64) 0 0 h, zero-div) refl)
    (le_or_lt k (n / 64))

pub seen_empty : (k : ℕ) → SeenAre (replicate k 0) []
seen_empty k m h = seen_none k m

pub seen_more : (words ids : List ℕ) (n : ℕ) → SeenAre words ids → n < 64 * length words
    → SeenAre (with_seen words n) (n ∷ ids)
seen_more words ids n all h m l =
    ⊎_elim (λ e. rw (is_among, eq-eqb m n e, e) (seen_same words n (omega arith)))
    (λ ne. rw (ne_eqb m n ne) (seen_other words n m ne ∙ all m (rw (seen_length words n) at l)))
    (eq_or_not m n)
