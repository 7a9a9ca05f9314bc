-- A map that keeps sizes keeps greedy packing: `fit` looks at sizes alone. Assumes nothing.
use mathlib.Core.Path.{◌≡◌, refl, ap, ap₂, ◌∙◌}
use mathlib.Core.Bool.{true, false}
use mathlib.Core.List.{List, [], ◌∷◌, map}
use Prim.Native.Nat.{ℕ, zero, suc, ◌+◌, ◌-◌}
use lib.Dec.{leb, ltb}
use lib.ListN.{take, drop, length-map}
use Rattle.packing.specs.Greedy.{fit, reach, greedy, unpackable}

module _ {A B : Type 0} (f : A → B) where
  take_map : (n : ℕ) (xs : List A) → take n (map f xs) ≡ map f (take n xs)
  take_map zero xs = refl
  take_map (suc n) [] = refl
  take_map (suc n) (x ∷ xs) = ap (λ (ys : List B). f x ∷ ys) (take_map n xs)

  drop_map : (n : ℕ) (xs : List A) → drop n (map f xs) ≡ map f (drop n xs)
  drop_map zero xs = refl
  drop_map (suc n) [] = refl
  drop_map (suc n) (x ∷ xs) = drop_map n xs

module _ {A B : Type 0} (f : A → B) (sizeA : A → ℕ) (sizeB : B → ℕ) (same : (x : A) → sizeB (f x) ≡ sizeA x) where
  pub fit_map : (room : ℕ) (xs : List A) → fit sizeB room (map f xs) ≡ fit sizeA room xs
  fit_map room [] = refl
  fit_map room (x ∷ xs) =
      ap (λ (n : ℕ). elim (leb n room) [ true ↦ suc (fit sizeB (room - n) (map f xs)) | false ↦ 0 ]) (same x)
      ∙ ap (λ (n : ℕ). elim (leb (sizeA x) room) [ true ↦ suc n | false ↦ 0 ]) (fit_map (room - sizeA x) xs)

  pub reach_map : (room k : ℕ) (xs : List A) → reach sizeB room k (map f xs) ≡ reach sizeA room k xs
  unfolding reach
  reach_map room zero xs = refl
  reach_map room (suc k) xs =
      let n : ℕ = fit sizeA room xs in
      ap (λ (m : ℕ). m + reach sizeB room k (drop m (map f xs))) (fit_map room xs)
      ∙ ap (λ (ys : List B). n + reach sizeB room k ys) (drop_map f n xs)
      ∙ ap (λ (m : ℕ). n + m) (reach_map room k (drop n xs))

  pub unpackable_map : (room k : ℕ) (xs : List A) → unpackable sizeB room k (map f xs) ≡ unpackable sizeA room k xs
  unpackable_map room k xs = ap₂ ltb (reach_map room k xs) (length-map xs f)

  -- the parts of mapped elements are the mapped parts
  pub greedy_map : (room k : ℕ) (xs : List A)
      → greedy sizeB room k (map f xs) ≡ map (map f) (greedy sizeA room k xs)
  unfolding greedy
  greedy_map room zero xs = refl
  greedy_map room (suc k) [] = refl
  greedy_map room (suc k) (x ∷ xs) =
      let n : ℕ = fit sizeA room (x ∷ xs) in
      let ys : List B = map f (x ∷ xs) in
      ap (λ (m : ℕ). take m ys ∷ greedy sizeB room k (drop m ys)) (fit_map room (x ∷ xs))
      ∙ ap₂ (λ (p : List B) (ps : List (List B)). p ∷ ps) (take_map f n (x ∷ xs))
      (ap (greedy sizeB room k) (drop_map f n (x ∷ xs)) ∙ greedy_map room k (drop n (x ∷ xs)))
