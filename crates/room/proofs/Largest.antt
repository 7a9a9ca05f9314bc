-- What `largest` finds, by induction over the bound: the one number up to it that passes and has none behind it that
-- does. Assumes nothing.
use mathlib.Core.Path.{◌≡◌, ap, ◌∙◌}
use mathlib.Core.Bool.{Bool, true, false, not}
use mathlib.Core.Logic.{◌⊎◌, inl, inr, ⊎_elim}
use Prim.Native.Nat.{ℕ, zero, suc, ◌≤◌, ◌<◌}
use native.Mathlib.Omega.{arith}
use lib.Dec.{T, T_not}
use Rattle.std.specs.Prelude.{Option, None, Some}
use Rattle.eit.proofs.Test.{true_is, false_is, test_or, le_or_lt}
use Rattle.room.specs.ChainRoom.{largest}

module _ (passes : ℕ → Bool) where
  -- none up to a bound passes
  abbrev pub NonePasses : ℕ → Type 0
  NonePasses n = (m : ℕ) → m ≤ n → T (not (passes m))

  -- the last one up to a bound that passes
  pub record Last (n m : ℕ) : Type 0 where
    pub within : m ≤ n
    pub itself : T (passes m)
    pub behind : (k : ℕ) → m < k → k ≤ n → T (not (passes k))

  largest_here : (n : ℕ) → T (passes n) → largest passes n ≡ Some n
  unfolding largest
  largest_here zero t = rw (largest, true_is (passes zero) t)
  largest_here (suc n) t = rw (largest, true_is (passes (suc n)) t)

  largest_zero : T (not (passes 0)) → largest passes 0 ≡ None
  unfolding largest
  largest_zero t = rw (largest, false_is (passes 0) t)

  largest_lower : (n : ℕ) → T (not (passes (suc n))) → largest passes (suc n) ≡ largest passes n
  unfolding largest
  largest_lower n t = rw (largest, false_is (passes (suc n)) t)

  pub largest_or : (n : ℕ)
      → ((largest passes n ≡ None) × NonePasses n) ⊎ ((m : ℕ) × (largest passes n ≡ Some m) × Last n m)
  largest_or zero =
      ⊎_elim (λ t. inr (
        0,
        largest_here 0 t,
        record { within = omega arith; itself = t; behind = λ k after most. absurd (omega arith) },
      ))
      (λ t. inl (largest_zero t, λ m most. let e : 0 ≡ m = omega arith in rw (← e) t)) (test_or (passes 0))
  largest_or (suc n) =
      ⊎_elim (λ t. inr (
        suc n,
        largest_here (suc n) t,
        record { within = omega arith; itself = t; behind = λ k after most. absurd (omega arith) },
      ))
      (λ t.
      let at_top : (k : ℕ) → k ≤ suc n → (k ≤ n → T (not (passes k))) → T (not (passes k)) =
      λ k most lower. ⊎_elim lower (λ top. let e : suc n ≡ k = omega arith in rw (← e) t) (le_or_lt k n) in
      ⊎_elim (λ (is, fails). inl (largest_lower n t ∙ is, λ m most. at_top m most (fails m)))
      (λ (m, is, last). inr (
        m,
        largest_lower n t ∙ is,
        record {
          within = omega (arith, last.within);
          itself = last.itself;
          behind = λ k after most. at_top k most (last.behind k after);
        },
      ))
      (largest_or n)) (test_or (passes (suc n)))

  -- which of the two it is
  pub largest_last : (n m : ℕ) → Last n m → largest passes n ≡ Some m
  largest_last n m last =
      ⊎_elim (λ (is, fails). absurd (T_not (passes m) (fails m last.within) last.itself))
      (λ (k, is, other). is ∙ ap Some (same k other)) (largest_or n)
    where
      same : (k : ℕ) → Last n k → k ≡ m
      same k other =
          ⊎_elim
          (λ below.
          ⊎_elim (λ above. omega arith)
          (λ lower. absurd (T_not (passes m) (other.behind m lower last.within) last.itself)) (le_or_lt m k))
          (λ higher. absurd (T_not (passes k) (last.behind k higher other.within) other.itself)) (le_or_lt k m)

  pub largest_none : (n : ℕ) → NonePasses n → largest passes n ≡ None
  largest_none n fails =
      ⊎_elim (λ (is, all). is)
      (λ (m, is, last). absurd (T_not (passes m) (fails m last.within) last.itself)) (largest_or n)

-- tests that agree have the same
pub largest_same : (p q : ℕ → Bool) → ((m : ℕ) → p m ≡ q m) → (n : ℕ) → largest p n ≡ largest q n
unfolding largest
largest_same p q same zero = ap (λ (b : Bool). elim b [ true ↦ Some zero | false ↦ None ]) (same zero)
largest_same p q same (suc n) =
    ap (λ (b : Bool). elim b [ true ↦ Some (suc n) | false ↦ largest p n ]) (same (suc n))
    ∙ ap (λ (o : Option ℕ). elim (q (suc n)) [ true ↦ Some (suc n) | false ↦ o ]) (largest_same p q same n)
