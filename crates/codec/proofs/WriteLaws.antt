-- A write that tests its place: what it does where the numbers fit and where they do not, and how two such writes are
-- one, by the laws of `overwrite`. Assumes nothing.
use Prim.Native.Nat.{ℕ, suc, ◌+◌, ◌≤◌, ◌<◌}
use mathlib.Core.Bool.{Bool, true, false, not}
use mathlib.Core.List.{List, [], ◌∷◌, ◌++◌, append_assoc}
use mathlib.Core.Logic.{⊎_elim}
use mathlib.Core.Path.{◌≡◌, sym, ap, ◌∙◌}
use native.Mathlib.Omega.{arith}
use borrow.Author.Tests.{le-leb, lt-leb, leb-true, leb-false, not-true, not-false}
use lib.Dec.{leb}
use lib.ListN.{length, take, drop, get_or, set, length-append, length-take}
use lib.Seq.{drop_at, paste, paste-suc}
use Rattle.eit.specs.Overwrite.{overwrite}
use Rattle.eit.proofs.Overwrite.{over_length, over_before, over_sets, over_one, over_paste, over_over}
use Rattle.eit.proofs.Test.{le_or_lt}
use Rattle.codec.specs.Write.{write_at}

-- ---- the test of a place

pub leb_same : (a b c d : ℕ) → (a ≤ b → c ≤ d) → (b < a → d < c) → leb a b ≡ leb c d
leb_same a b c d within beyond =
    ⊎_elim
    (λ h. le-leb a b h ∙ sym (le-leb c d (within h)))
    (λ h. lt-leb a b h ∙ sym (lt-leb c d (beyond h)))
    (le_or_lt a b)

module _ {r : Bool} (at width size : ℕ) (test : r ≡ leb (at + width) size) where
  pub is_inside_holds : not r ≡ false → at + width ≤ size
  is_inside_holds holds = leb-true (at + width) size (sym test ∙ not-false r holds)

  pub is_outside : not r ≡ true → size < at + width
  is_outside fails = leb-false (at + width) size (sym test ∙ not-true r fails)

module _ {A : Type 0} where
  -- ---- one write

  pub write_fits : (d : List A) (at : ℕ) (xs : List A) → at + length xs ≤ length d → write_at d at xs ≡ overwrite d at xs
  write_fits d at xs fits = rw (write_at, le-leb (at + length xs) (length d) fits)

  pub write_short : (d : List A) (at : ℕ) (xs : List A) → length d < at + length xs → write_at d at xs ≡ d
  write_short d at xs short = rw (write_at, lt-leb (at + length xs) (length d) short)

  pub write_length : (d : List A) (at : ℕ) (xs : List A) → length (write_at d at xs) ≡ length d
  write_length d at xs =
      ⊎_elim
      (λ fits. ap length (write_fits d at xs fits) ∙ over_length d at xs fits)
      (λ short. ap length (write_short d at xs short))
      (le_or_lt (at + length xs) (length d))

  -- ---- two writes

  -- one right behind the other, where both fit
  pub write_then : {e f : List A} (d : List A) (at : ℕ) (xs ys : List A) → at + length (xs ++ ys) ≤ length d
      → e ≡ write_at d at xs → f ≡ write_at e (at + length xs) ys → f ≡ write_at d at (xs ++ ys)
  write_then {e} {f} d at xs ys fits first second =
      let size : length (xs ++ ys) ≡ length xs + length ys = length-append xs ys in
      let same : length e ≡ length d = ap length first ∙ write_length d at xs in
      let over : e ≡ overwrite d at xs = first ∙ write_fits d at xs (omega arith) in
      second ∙ write_fits e (at + length xs) ys (omega arith)
      ∙ ap (λ (l : List A). overwrite l (at + length xs) ys) over
      ∙ over_over d at xs ys (omega arith)
      ∙ sym (write_fits d at (xs ++ ys) fits)

  -- one number right before a write
  pub over_prepend : (d : List A) (at : ℕ) (x : A) (xs : List A) → suc at + length xs ≤ length d
      → set (overwrite d (suc at) xs) at x ≡ overwrite d at (x ∷ xs)
  over_prepend d at x xs fits =
      let e : List A = overwrite d (suc at) xs in
      let size : length e ≡ length d = over_length d (suc at) xs fits in
      let front : take at e ≡ take at d = over_before d (suc at) xs at (omega arith) (omega arith) in
      let whole : e ≡ take (suc at) d ++ (xs ++ drop (suc at + length xs) d) =
      append_assoc (take (suc at) d) xs (drop (suc at + length xs) d) in
      let rest : drop (at + 1) e ≡ xs ++ drop (suc at + length xs) d =
      ap (drop (at + 1)) whole
      ∙ drop_at (take (suc at) d) (xs ++ drop (suc at + length xs) d) (at + 1) (simp length-take (omega arith)) in
      let place : suc at + length xs ≡ at + length (x ∷ xs) = omega arith in
      over_one e at x (omega arith) ∙ rw (front, rest, place) (simp append_assoc)

  -- three numbers, one after the other
  pub write_three : (d : List A) (at : ℕ) (x y z : A) → at + 3 ≤ length d
      → set (set (set d at x) (at + 1) y) (at + 2) z ≡ write_at d at (x ∷ y ∷ z ∷ [])
  write_three d at x y z fits =
      let second : at + 1 ≡ suc at = omega arith in
      let third : at + 2 ≡ suc (suc at) = omega arith in
      rw (second, third) (over_sets d at (x ∷ y ∷ z ∷ []) fits ∙ sym (write_fits d at (x ∷ y ∷ z ∷ []) fits))

-- ---- a copy, number by number

module _ (d : List ℕ) (at : ℕ) (xs : List ℕ) (i : ℕ) (fits : at + length xs ≤ length d) where
  pub paste_more : {out : List ℕ} → i < length xs → out ≡ paste d at xs i
      → set out (at + i) (get_or xs i 0) ≡ paste d at xs (i + 1)
  paste_more inside so_far =
      let next : i + 1 ≡ suc i = omega arith in
      rw (so_far, next) (paste-suc d at xs i 0 (omega arith) inside)

  pub paste_all : {out : List ℕ} → i ≡ length xs → out ≡ paste d at xs i → out ≡ write_at d at xs
  paste_all done so_far = so_far ∙ rw done (over_paste d at xs ∙ sym (write_fits d at xs fits))
