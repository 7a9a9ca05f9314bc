-- Parts and what they hold: `joined` is the library's `flatten`; and parts of the same elements, as many, with as many
-- elements in the first k for every k, are the same. By induction over the parts. Assumes nothing.
use mathlib.Core.Path.{◌≡◌, refl, sym, ap, ap₂, ◌∙◌}
use mathlib.Core.List.{List, [], ◌∷◌, ◌++◌, flatten}
use Prim.Native.Nat.{ℕ, suc, ◌+◌, ◌≤◌}
use native.Mathlib.Omega.{arith}
use lib.ListN.{length, take, drop, length-append}
use lib.Seq.{take-append_seam, drop-append_seam}
use Rattle.packing.specs.Greedy.{joined, held}

module _ {A : Type 0} where
  pub joined_flatten : (ps : List (List A)) → joined ps ≡ flatten ps
  unfolding flatten
  joined_flatten [] = refl
  joined_flatten (p ∷ ps) = ap (λ (xs : List A). p ++ xs) (joined_flatten ps)

  -- what the first part holds, and then the others
  held_one : (p : List A) (ps : List (List A)) → held 1 (p ∷ ps) ≡ length p
  held_one p ps = omega (arith, length-append p (joined (take 0 ps)))

  held_more : (k : ℕ) (p : List A) (ps : List (List A)) → held (suc k) (p ∷ ps) ≡ length p + held k ps
  held_more k p ps = length-append p (joined (take k ps))

  -- parts with the same elements joined, as many, and as many elements in the first k for every k up to their number,
  -- are the same
  pub parts_only : (ps qs : List (List A)) → joined ps ≡ joined qs → length ps ≡ length qs
      → ((k : ℕ) → k ≤ length ps → held k ps ≡ held k qs)
      → ps ≡ qs
  parts_only [] [] same many held_same = refl
  parts_only [] (q ∷ qs) same many held_same = absurd (omega arith)
  parts_only (p ∷ ps) [] same many held_same = absurd (omega arith)
  parts_only (p ∷ ps) (q ∷ qs) same many held_same =
      let first : length p ≡ length q = omega (arith, held_one p ps, held_one q qs, held_same 1 (omega arith)) in
      let head : p ≡ q =
      sym (take-append_seam p (joined ps))
      ∙ ap₂ (λ (n : ℕ) (xs : List A). take n xs) first same
      ∙ take-append_seam q (joined qs) in
      let rest : joined ps ≡ joined qs =
      sym (drop-append_seam p (joined ps))
      ∙ ap₂ (λ (n : ℕ) (xs : List A). drop n xs) first same
      ∙ drop-append_seam q (joined qs) in
      ap₂ (λ (r : List A) (rs : List (List A)). r ∷ rs) head
      (parts_only ps qs rest (omega arith)
      (λ k few. omega (arith, held_more k p ps, held_more k q qs, held_same (suc k) (omega arith))))
