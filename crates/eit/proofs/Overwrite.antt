-- Writes into a buffer: what a write leaves and changes, and how two writes are one. Each law cuts the buffer at the
-- two ends of the write. Assumes nothing.
use Prim.Native.Nat.{ℕ, zero, suc, ◌+◌, ◌-◌, ◌≤◌, ◌<◌}
use mathlib.Core.List.{List, [], ◌∷◌, ◌++◌, append_assoc}
use mathlib.Core.Path.{◌≡◌, refl, sym, ap, ◌∙◌}
use native.Mathlib.Omega.{arith}
use lib.ListN.{length, take, drop, set, length-append, length-take, length-drop, take-append-drop}
use lib.Seq.{sets, sets-eq, paste, paste-zero, take-length, length-take-le, take-take, drop-drop}
use lib.Seq.{take-append-le, take-append_seam, drop-append-add, take_at, drop_at}
use Rattle.eit.specs.Overwrite.{overwrite}

module _ {A : Type 0} where
  -- ---- one write

  pub over_nothing : (d : List A) (at : ℕ) → overwrite d at [] ≡ d
  over_nothing d at = sym (paste-zero d at [])

  pub over_length : (d : List A) (at : ℕ) (xs : List A) → at + length xs ≤ length d
      → length (overwrite d at xs) ≡ length d
  over_length d at xs fits = simp (length-append, length-take, length-drop) (omega arith)

  -- what stands before the end of the write
  front_length : (d : List A) (at : ℕ) (xs : List A) → at ≤ length d → length (take at d ++ xs) ≡ at + length xs
  front_length d at xs inside = simp (length-append, length-take) (omega arith)

  pub over_before : (d : List A) (at : ℕ) (xs : List A) (k : ℕ) → k ≤ at → at ≤ length d
      → take k (overwrite d at xs) ≡ take k d
  over_before d at xs k before inside =
      let short : k ≤ length (take at d) = simp length-take (omega arith) in
      rw (append_assoc, take-append-le k (take at d) (xs ++ drop (at + length xs) d) short) (take-take k at d before)

  pub over_within : (d : List A) (at : ℕ) (xs : List A) → at ≤ length d
      → take (length xs) (drop at (overwrite d at xs)) ≡ xs
  over_within d at xs inside =
      rw (append_assoc, drop_at (take at d) (xs ++ drop (at + length xs) d) at (length-take-le at d inside))
      (take-append_seam xs (drop (at + length xs) d))

  pub over_after : (d : List A) (at : ℕ) (xs : List A) (k : ℕ) → at ≤ length d → at + length xs ≤ k
      → drop k (overwrite d at xs) ≡ drop k d
  over_after d at xs k inside after =
      let front : List A = take at d ++ xs in
      let more : ℕ = k - (at + length xs) in
      let size : length front ≡ at + length xs = front_length d at xs inside in
      let place : k ≡ length front + more = rw size (omega arith) in
      rw (place, drop-append-add front (drop (at + length xs) d) more, drop-drop more (at + length xs) d, size)

  take_rest : (n : ℕ) (xs : List A) → take n xs ++ drop (length (take n xs)) xs ≡ xs
  take_rest zero xs = refl
  take_rest (suc n) [] = refl
  take_rest (suc n) (x ∷ xs) = ap (λ (rest : List A). x ∷ rest) (take_rest n xs)

  pub over_self : (d : List A) (at n : ℕ) → overwrite d at (take n (drop at d)) ≡ d
  over_self d at n =
      rw (← drop-drop (length (take n (drop at d))) at d, append_assoc, take_rest n (drop at d)) (take-append-drop at d)

  -- ---- the same write in the library's words

  pub over_sets : (d : List A) (at : ℕ) (xs : List A) → at + length xs ≤ length d → sets d at xs ≡ overwrite d at xs
  over_sets d at xs fits = sets-eq xs d at fits

  pub over_one : (d : List A) (at : ℕ) (x : A) → at < length d → set d at x ≡ overwrite d at (x ∷ [])
  over_one d at x inside = over_sets d at (x ∷ []) (omega arith)

  pub over_paste : (d : List A) (at : ℕ) (xs : List A) → paste d at xs (length xs) ≡ overwrite d at xs
  over_paste d at xs = rw (take-length xs)

  -- a write from the front that begins with what stands there
  pub over_front : (d : List A) (at : ℕ) (xs : List A) → at ≤ length d
      → overwrite d 0 (take at d ++ xs) ≡ overwrite d at xs
  over_front d at xs inside =
      let e : 0 + length (take at d ++ xs) ≡ at + length xs = omega (arith, front_length d at xs inside) in
      ap (λ (k : ℕ). take at d ++ xs ++ drop k d) e

  -- ---- two writes

  -- one right behind the other
  pub over_over : (d : List A) (at : ℕ) (xs ys : List A) → at ≤ length d
      → overwrite (overwrite d at xs) (at + length xs) ys ≡ overwrite d at (xs ++ ys)
  over_over d at xs ys inside =
      let seam : ℕ = at + length xs in
      let end : ℕ = seam + length ys in
      let front : take seam (overwrite d at xs) ≡ take at d ++ xs = take_at _ _ seam (front_length d at xs inside) in
      let rest : drop end (overwrite d at xs) ≡ drop end d = over_after d at xs end inside (omega arith) in
      let size : at + length (xs ++ ys) ≡ end = simp length-append (omega arith) in
      rw (front, rest, size, append_assoc (take at d) xs ys)

  -- the same, for a chain of calls
  pub over_then : {e f : List A} (d : List A) (at : ℕ) (xs ys : List A) → e ≡ overwrite d at xs
      → f ≡ overwrite e (at + length xs) ys → at ≤ length d → f ≡ overwrite d at (xs ++ ys)
  over_then d at xs ys first second inside =
      second ∙ ap (λ (e : List A). overwrite e (at + length xs) ys) first ∙ over_over d at xs ys inside

  -- one over the other, at least as long
  pub over_again : (d : List A) (at : ℕ) (xs ys : List A) → length xs ≤ length ys → at ≤ length d
      → overwrite (overwrite d at xs) at ys ≡ overwrite d at ys
  over_again d at xs ys covered inside =
      let end : ℕ = at + length ys in
      let front : take at (overwrite d at xs) ≡ take at d = over_before d at xs at (omega arith) inside in
      let rest : drop end (overwrite d at xs) ≡ drop end d = over_after d at xs end inside (omega arith) in
      rw (front, rest)

  -- one over the front of the other
  pub over_part : (d : List A) (at : ℕ) (xs ys zs : List A) → length xs ≡ length ys → at ≤ length d
      → overwrite (overwrite d at (xs ++ zs)) at ys ≡ overwrite d at (ys ++ zs)
  over_part d at xs ys zs same inside =
      let whole : List A = xs ++ zs in
      let end : ℕ = at + length whole in
      let front : take at (overwrite d at whole) ≡ take at d = over_before d at whole at (omega arith) inside in
      let parts : overwrite d at whole ≡ (take at d ++ xs) ++ (zs ++ drop end d) =
      ap (λ (l : List A). l ++ drop end d) (sym (append_assoc (take at d) xs zs))
      ∙ append_assoc (take at d ++ xs) zs (drop end d) in
      let rest : drop (at + length ys) (overwrite d at whole) ≡ zs ++ drop end d =
      ap (drop (at + length ys)) parts
      ∙ drop_at (take at d ++ xs) (zs ++ drop end d) (at + length ys) (front_length d at xs inside ∙ omega arith) in
      let size : end ≡ at + length (ys ++ zs) = simp length-append (omega arith) in
      rw (front, rest, ← size)
      (sym (append_assoc (take at d ++ ys) zs (drop end d))
      ∙ ap (λ (l : List A). l ++ drop end d) (append_assoc (take at d) ys zs))
