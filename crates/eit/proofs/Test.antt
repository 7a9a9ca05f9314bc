-- Boolean tests as facts: what a conjunction, a disjunction and a negation of tests say. Assumes nothing.
use mathlib.Core.Bool.{Bool, true, false, not, ◌&&◌, ◌||◌}
use mathlib.Core.Logic.{◌⊎◌, inl, inr, ⊎_elim}
use mathlib.Core.Path.{◌≡◌, refl, sym, subst}
use Prim.Native.Nat.{ℕ, ◌≤◌, ◌<◌}
use native.Mathlib.Decide.{dec_le}
use native.Mathlib.Nat.{lt_of_not-le}
use lib.Dec.{T, eqb, eqb→eq, eqb_refl, T_not, not_T}

pub and_left : (a b : Bool) → T (a && b) → T a
and_left true b t = tt
and_left false b t = t

pub and_right : (a b : Bool) → T (a && b) → T b
and_right true b t = t
and_right false b t = absurd t

-- both parts of a conjunction
pub and_parts : (a b : Bool) → T (a && b) → T a × T b
and_parts a b t = (and_left a b t, and_right a b t)

pub and_both : (a b : Bool) → T a → T b → T (a && b)
and_both true b t u = u
and_both false b t u = t

pub true_is : (a : Bool) → T a → a ≡ true
true_is true t = refl
true_is false t = absurd t

pub false_is : (a : Bool) → T (not a) → a ≡ false
false_is true t = absurd t
false_is false t = refl

pub not_not : (a : Bool) → T a → T (not (not a))
not_not true t = t
not_not false t = absurd t

-- two tests that hold together are equal
pub both_ways : (a b : Bool) → (T a → T b) → (T b → T a) → a ≡ b
both_ways true b to back = sym (true_is b (to tt))
both_ways false true to back = absurd (back tt)
both_ways false false to back = refl

-- a test holds or fails
pub test_or : (a : Bool) → T a ⊎ T (not a)
test_or true = inl tt
test_or false = inr tt

-- one order or the other
pub le_or_lt : (m n : ℕ) → (m ≤ n) ⊎ (n < m)
le_or_lt m n = elim (dec_le m n) [ yes h ↦ inl h | no h ↦ inr (lt_of_not-le h) ]

pub or_left : (a b : Bool) → T a → T (a || b)
or_left true b t = tt
or_left false b t = absurd t

pub or_right : (a b : Bool) → T b → T (a || b)
or_right true b t = tt
or_right false b t = t

pub or_cases : (a b : Bool) → T (a || b) → T a ⊎ T b
or_cases true b t = inl tt
or_cases false b t = inr t

pub or_other : (a b : Bool) → T (not a) → T (a || b) → T b
or_other true b n t = absurd n
or_other false b n t = t

pub nor_left : (a b : Bool) → T (not (a || b)) → T (not a)
nor_left true b t = t
nor_left false b t = tt

pub nor_right : (a b : Bool) → T (not (a || b)) → T (not b)
nor_right true b t = absurd t
nor_right false b t = t

pub nor_both : (a b : Bool) → T (not a) → T (not b) → T (not (a || b))
nor_both true b m n = m
nor_both false b m n = n

pub eq_test : (m n : ℕ) → m ≡ n → T (eqb m n)
eq_test m n e = subst (λ (k : ℕ). T (eqb m k)) e (eqb_refl m)

pub ne_test : (m n : ℕ) → (m ≡ n → ⊥) → T (not (eqb m n))
ne_test m n h = not_T (eqb m n) (λ e. h (eqb→eq m n e))

pub eq_or_not : (m n : ℕ) → (m ≡ n) ⊎ (m ≡ n → ⊥)
eq_or_not m n = ⊎_elim (λ t. inl (eqb→eq m n t)) (λ t. inr (λ e. T_not (eqb m n) t (eq_test m n e))) (test_or (eqb m n))

pub ne_sym : (m n : ℕ) → T (not (eqb m n)) → T (not (eqb n m))
ne_sym m n t =
    not_T (eqb n m) (λ e. T_not (eqb m n) t (subst (λ (k : ℕ). T (eqb m k)) (sym (eqb→eq n m e)) (eqb_refl m)))

-- what `search` takes tests apart and puts them together with
pub ruleset tests = (and_left, and_right, and_both, or_other, nor_left, nor_right, nor_both)
