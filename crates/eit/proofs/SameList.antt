-- The test whether two lists of numbers are the same says just that: place by place. Assumes nothing.
use mathlib.Core.Path.{◌≡◌, refl, ap₂, subst}
use mathlib.Core.Bool.{Bool, true, false}
use mathlib.Core.List.{List, [], ◌∷◌}
use Prim.Native.Nat.{ℕ}
use borrow.Author.Tests.{eq-eqb}
use lib.Dec.{T, eqb, eqb→eq}
use Rattle.eit.specs.SameList.{same_list}

pub same_list_holds : (xs ys : List ℕ) → T (same_list xs ys) → xs ≡ ys
same_list_holds [] [] t = refl
same_list_holds [] (y ∷ ys) t = absurd t
same_list_holds (x ∷ xs) [] t = absurd t
same_list_holds (x ∷ xs) (y ∷ ys) t = by (eqb x y) refl t (same_list_holds xs ys)
  where
    by : (b : Bool) → eqb x y ≡ b → T (elim b [ true ↦ same_list xs ys | false ↦ false ])
        → (T (same_list xs ys) → xs ≡ ys)
        → x ∷ xs ≡ y ∷ ys
    by true e s again = ap₂ ◌∷◌ (eqb→eq x y (rw e tt)) (again s)
    by false e s again = absurd s

list_same : (xs : List ℕ) → T (same_list xs xs)
list_same [] = tt
list_same (x ∷ xs) = rw (same_list, eq-eqb x x refl) (list_same xs)

pub same_test : (xs ys : List ℕ) → xs ≡ ys → T (same_list xs ys)
same_test xs ys same = subst (λ (zs : List ℕ). T (same_list xs zs)) same (list_same xs)
