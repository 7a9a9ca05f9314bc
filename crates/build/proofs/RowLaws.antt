-- The last section of a table, searched downwards from its last segment. Assumes nothing.
use mathlib.Core.Path.{◌≡◌, refl, sym, ap, ◌∙◌}
use mathlib.Core.Logic.{◌⊎◌, inr, ⊎_elim}
use mathlib.Core.List.{List}
use Prim.Native.Nat.{ℕ, zero, suc, ◌+◌, ◌-◌, ◌*◌, ◌≤◌, ◌<◌}
use native.Mathlib.Omega.{arith}
use borrow.Author.Tests.{eq-eqb, ne_eqb}
use lib.ListN.{get_or}
use Rattle.eit.proofs.Test.{le_or_lt}
use Rattle.build.specs.Rows.{last_counted, row_last}

-- ---- the last segment up to segment k that has sections

counted_skip : (k : ℕ) (counts : List ℕ) → get_or counts (suc k) 0 ≡ 0
    → last_counted (suc k) counts ≡ last_counted k counts
counted_skip k counts none = rw (last_counted, eq-eqb (get_or counts (suc k) 0) 0 none)

counted_here : (k : ℕ) (counts : List ℕ) → (k ≡ 0) ⊎ (get_or counts k 0 ≡ 0 → ⊥) → last_counted k counts ≡ k
counted_here zero counts here = refl
counted_here (suc k) counts here =
    ⊎_elim (λ first. absurd (omega arith)) (λ some. rw (last_counted, ne_eqb (get_or counts (suc k) 0) 0 some)) here

-- it has sections, or it is segment 0, and none behind it has
pub counted_is : (n k : ℕ) (counts : List ℕ) → k ≤ n → (k ≡ 0) ⊎ (get_or counts k 0 ≡ 0 → ⊥)
    → ((j : ℕ) → k < j → j ≤ n → get_or counts j 0 ≡ 0) → last_counted n counts ≡ k
counted_is zero k counts within here behind = omega arith
counted_is (suc n) k counts within here behind =
    ⊎_elim
    (λ before.
    counted_skip n counts (behind (suc n) (omega arith) (omega arith))
    ∙ counted_is n k counts before here (λ j later most. behind j later (omega arith)))
    (λ at_last.
    let same : k ≡ suc n = omega arith in
    ap (λ (j : ℕ). last_counted j counts) (sym same) ∙ counted_here k counts here)
    (le_or_lt k n)

pub last_is : (counts : List ℕ) (k : ℕ) → last_counted 31 counts ≡ k → row_last counts ≡ 8 * k + (get_or counts k 0 - 1)
last_is counts k is = ap (λ (s : ℕ). 8 * s + (get_or counts s 0 - 1)) is

-- ---- the search

-- from segment k on none has sections
abbrev pub NoneFrom : List ℕ → ℕ → Type 0
NoneFrom counts k = (j : ℕ) → k ≤ j → j ≤ 31 → get_or counts j 0 ≡ 0

-- the one before it has
pub last_found : (counts : List ℕ) (k : ℕ) → NoneFrom counts k → 0 < k → k ≤ 32 → 0 < get_or counts (k - 1) 0
    → row_last counts ≡ 8 * (k - 1) + (get_or counts (k - 1) 0 - 1)
last_found counts k none some few here =
    last_is counts (k - 1)
    (counted_is 31 (k - 1) counts (omega arith) (inr (λ empty. omega arith))
    (λ j later most. none j (omega arith) most))
