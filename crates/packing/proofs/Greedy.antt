-- Greedy packing (01, "Build, Read", the packing rule) is the best packing in order, by one idea: parts that start
-- later never end earlier, so a packing that is behind after one part is behind after every part.
--
-- In order: what `fit` is; starting later; dominance; the parts that greedy packing makes; when a list is packable; the
-- fewest parts; an element larger than the room; no part is empty. `fit_fits` and `fit_most` determine `fit`: but for
-- `fit_length`, nothing after them looks at its clauses. Assumes nothing.
use mathlib.Core.Path.{◌≡◌, refl, sym, ap, ◌∙◌}
use mathlib.Core.Logic.{◌⊎◌, inl, inr, ⊎_elim}
use mathlib.Core.Bool.{Bool, true, false, not}
use mathlib.Core.List.{List, [], ◌∷◌, ◌++◌}
use mathlib.Core.List.Memᴰ
use mathlib.Core.List.{Memᴰ}
use Prim.Native.Nat.{ℕ, zero, suc, ◌+◌, ◌-◌, ◌≤◌, ◌<◌}
use native.Mathlib.Omega.{arith}
use borrow.Author.Tests.{leb-true, leb-false, le-ltb}
use lib.Dec.{T, leb, ltb→lt, lt→ltb, nltb→le}
use lib.ListN.{length, take, drop, length-append, length-drop}
use lib.Seq.{take_all, take-nil, take-add, drop-drop, length-take-le, take-append_seam, drop-append-add}
use Rattle.packing.specs.Greedy.{joined, held, NoneEmpty, size_of, fits, fit, reach, greedy, unpackable, AllFit}
use Rattle.packing.specs.Greedy.{Packing}

-- a test passes or fails, and each case has the equation that says so
pub by_test : {C : Type 0} (b : Bool) → (b ≡ true → C) → (b ≡ false → C) → C
by_test true f g = f refl
by_test false f g = g refl

pub le_or_lt : (m n : ℕ) → (m ≤ n) ⊎ (n < m)
le_or_lt m n = by_test (leb m n) (λ e. inl (leb-true m n e)) (λ e. inr (leb-false m n e))

module _ {A : Type 0} (size : A → ℕ) where
  -- ---- what `fit` is

  -- what a part takes fits
  pub fit_fits : (room : ℕ) (xs : List A) → size_of size (take (fit size room xs) xs) ≤ room
  fit_fits room [] = omega arith
  fit_fits room (x ∷ xs) =
      by_test (fits size room x) (λ e. rw (fit, e) (omega (arith, leb-true, fit_fits (room - size x) xs)))
      (λ e. rw (fit, e) (omega arith))

  -- nothing more would have fitted
  pub fit_most : (room : ℕ) (xs : List A) (n : ℕ) → n ≤ length xs → size_of size (take n xs) ≤ room
      → n ≤ fit size room xs
  fit_most room [] n l h = omega arith
  fit_most room (x ∷ xs) zero l h = omega arith
  fit_most room (x ∷ xs) (suc n) l h =
      by_test (fits size room x)
      (λ e. rw (fit, e) (omega (arith, fit_most (room - size x) xs n (omega arith) (omega arith))))
      (λ e. absurd (omega (arith, leb-false)))

  -- a part takes no more than there are
  pub fit_length : (room : ℕ) (xs : List A) → fit size room xs ≤ length xs
  fit_length room [] = omega arith
  fit_length room (x ∷ xs) =
      by_test (fits size room x) (λ e. rw (fit, e) (omega (arith, fit_length (room - size x) xs)))
      (λ e. rw (fit, e) (omega arith))

  -- what k parts take, one after the other
  pub reach_none : (room : ℕ) (xs : List A) → reach size room 0 xs ≡ 0
  unfolding reach
  reach_none room xs = refl

  pub reach_more : (room k : ℕ) (xs : List A)
      → let n = fit size room xs in
      reach size room (suc k) xs ≡ n + reach size room k (drop n xs)
  unfolding reach
  reach_more room k xs = refl

  -- no more than there are
  pub reach_length : (room k : ℕ) (xs : List A) → reach size room k xs ≤ length xs
  unfolding reach
  reach_length room zero xs = omega arith
  reach_length room (suc k) xs =
      let n : ℕ = fit size room xs in
      omega (arith, fit_length room xs, rw length-drop at (reach_length room k (drop n xs)))

  -- ---- starting later

  size_append : (xs ys : List A) → size_of size (xs ++ ys) ≡ size_of size xs + size_of size ys
  size_append [] ys = omega arith
  size_append (x ∷ xs) ys = omega (arith, size_append xs ys)

  size_take : (c n : ℕ) (xs : List A)
      → size_of size (take (c + n) xs) ≡ size_of size (take c xs) + size_of size (take n (drop c xs))
  size_take c n xs = rw (take-add, size_append)

  -- a part that starts c elements later ends no earlier: the other's elements from there on fit in it
  pub fit_ahead : (room c : ℕ) (xs : List A) → fit size room xs ≤ c + fit size room (drop c xs)
  fit_ahead room c xs =
      ⊎_elim (λ h. omega arith) (λ h. overlap (fit size room xs - c) (omega arith)) (le_or_lt (fit size room xs) c)
    where
      overlap : (n : ℕ) → fit size room xs ≡ c + n → fit size room xs ≤ c + fit size room (drop c xs)
      overlap n e =
          let there : n ≤ length (drop c xs) = rw length-drop (omega (arith, fit_length room xs)) in
          let small : size_of size (take n (drop c xs)) ≤ room =
          omega (arith, size_take c n xs, rw e at (fit_fits room xs)) in
          omega (arith, fit_most room (drop c xs) n there small)

  -- and so do k parts
  pub reach_ahead : (room k c : ℕ) (xs : List A) → reach size room k xs ≤ c + reach size room k (drop c xs)
  unfolding reach
  reach_ahead room zero c xs = omega arith
  reach_ahead room (suc k) c xs =
      let m : ℕ = fit size room xs in
      let n : ℕ = c + fit size room (drop c xs) in
      let later : m ≤ n = fit_ahead room c xs in
      let meet : m + (n - m) ≡ n = omega arith in
      rw (drop-drop (fit size room (drop c xs)) c xs)
      (omega (arith, rw (drop-drop (n - m) m xs, meet) at (reach_ahead room k (n - m) (drop m xs))))

  -- ---- dominance

  parts_best : (room k : ℕ) (ps : List (List A)) → AllFit size room ps → held k ps ≤ reach size room k (joined ps)
  unfolding reach
  parts_best room zero ps h = omega arith
  parts_best room (suc k) [] h = omega arith
  parts_best room (suc k) (p ∷ ps) h =
      let xs : List A = p ++ joined ps in
      let n : ℕ = fit size room xs in
      let first : length p ≤ n =
      fit_most room xs (length p) (rw length-append (omega arith)) (rw take-append_seam h.0) in
      let meet : length p + (n - length p) ≡ n = omega arith in
      let rest : drop n xs ≡ drop (n - length p) (joined ps) =
      rw meet at (drop-append-add p (joined ps) (n - length p)) in
      omega (
        arith,
        length-append p (joined (take k ps)),
        parts_best room k ps h.1,
        rw (← rest) at (reach_ahead room k (n - length p) (joined ps)),
      )

  -- after any number of parts, no packing in order holds more than greedy packing
  pub greedy_best : (room k : ℕ) (xs : List A) (ps : List (List A)) → Packing size room xs ps
      → held k ps ≤ reach size room k xs
  greedy_best room k xs ps h = rw h.ordered at (parts_best room k ps h.all_fit)

  -- ---- the parts that greedy packing makes

  -- one after the other
  pub greedy_none : (room : ℕ) (xs : List A) → greedy size room 0 xs ≡ []
  unfolding greedy
  greedy_none room xs = refl

  pub greedy_end : (room k : ℕ) (xs : List A) → length xs ≡ 0 → greedy size room k xs ≡ []
  unfolding greedy
  greedy_end room zero xs none_left = refl
  greedy_end room (suc k) [] none_left = refl
  greedy_end room (suc k) (x ∷ xs) none_left = absurd (omega arith)

  pub greedy_more : (room k : ℕ) (xs : List A) → 0 < length xs
      → let n = fit size room xs in
      greedy size room (suc k) xs ≡ take n xs ∷ greedy size room k (drop n xs)
  unfolding greedy
  greedy_more room k [] some = absurd (omega arith)
  greedy_more room k (x ∷ xs) some = refl

  -- each fits
  pub greedy_fits : (room k : ℕ) (xs : List A) → AllFit size room (greedy size room k xs)
  unfolding greedy
  greedy_fits room zero xs = tt
  greedy_fits room (suc k) [] = tt
  greedy_fits room (suc k) (x ∷ xs) =
      (fit_fits room (x ∷ xs), greedy_fits room k (drop (fit size room (x ∷ xs)) (x ∷ xs)))

  -- there are at most k
  pub greedy_count : (room k : ℕ) (xs : List A) → length (greedy size room k xs) ≤ k
  unfolding greedy
  greedy_count room zero xs = omega arith
  greedy_count room (suc k) [] = omega arith
  greedy_count room (suc k) (x ∷ xs) = omega (arith, greedy_count room k (drop (fit size room (x ∷ xs)) (x ∷ xs)))

  -- together they are the next elements, as many as `reach` says
  pub greedy_joined : (room k : ℕ) (xs : List A) → joined (greedy size room k xs) ≡ take (reach size room k xs) xs
  unfolding greedy reach
  greedy_joined room zero xs = refl
  greedy_joined room (suc k) [] = sym (take-nil (reach size room (suc k) []))
  greedy_joined room (suc k) (x ∷ xs) =
      let n : ℕ = fit size room (x ∷ xs) in
      let rest : List A = drop n (x ∷ xs) in
      rw (greedy_joined room k rest) (sym (take-add n (reach size room k rest) (x ∷ xs)))

  -- so `reach` is how many they hold
  pub greedy_reach : (room k : ℕ) (xs : List A) → length (joined (greedy size room k xs)) ≡ reach size room k xs
  greedy_reach room k xs = rw greedy_joined (length-take-le (reach size room k xs) xs (reach_length room k xs))

  -- the first j do not depend on how many may follow
  pub greedy_take : (room j k : ℕ) (xs : List A) → j ≤ k → take j (greedy size room k xs) ≡ greedy size room j xs
  unfolding greedy
  greedy_take room zero k xs h = refl
  greedy_take room (suc j) zero xs h = absurd (omega arith)
  greedy_take room (suc j) (suc k) [] h = refl
  greedy_take room (suc j) (suc k) (x ∷ xs) h =
      rw (greedy_take room j k (drop (fit size room (x ∷ xs)) (x ∷ xs)) (omega arith))

  -- and the first j hold as many as `reach` says of j
  pub greedy_held : (room j k : ℕ) (xs : List A) → j ≤ k → held j (greedy size room k xs) ≡ reach size room j xs
  greedy_held room j k xs h = rw greedy_take (greedy_reach room j xs)

  -- ---- when a list is packable

  -- one packing in at most k parts is enough: greedy packing then reaches the end
  pub greedy_all : (room k : ℕ) (xs : List A) (ps : List (List A)) → Packing size room xs ps → length ps ≤ k
      → reach size room k xs ≡ length xs
  greedy_all room k xs ps h l =
      let whole : held k ps ≡ length xs = rw (take_all k ps l, h.ordered) in
      omega (arith, greedy_best room k xs ps h, reach_length room k xs)

  -- so the list is not unpackable
  pub greedy_packable : (room k : ℕ) (xs : List A) (ps : List (List A)) → Packing size room xs ps → length ps ≤ k
      → unpackable size room k xs ≡ false
  greedy_packable room k xs ps h l =
      le-ltb (reach size room k xs) (length xs) (omega (arith, greedy_all room k xs ps h l))

  -- greedy packing that reaches the end is a packing
  reached : (room k : ℕ) (xs : List A) → length xs ≤ reach size room k xs → Packing size room xs (greedy size room k xs)
  reached room k xs h =
      record {
        ordered = greedy_joined room k xs ∙ take_all (reach size room k xs) xs h;
        all_fit = greedy_fits room k xs;
      }

  -- a list that is not unpackable has a packing, the greedy one, and that has at most k parts (`greedy_count`)
  pub packable : (room k : ℕ) (xs : List A) → T (not (unpackable size room k xs))
      → Packing size room xs (greedy size room k xs)
  packable room k xs t = reached room k xs (nltb→le (reach size room k xs) (length xs) t)

  -- if some packing has at most k parts, so has the greedy one
  pub greedy_packs : (room k : ℕ) (xs : List A) (ps : List (List A)) → Packing size room xs ps → length ps ≤ k
      → Packing size room xs (greedy size room k xs)
  greedy_packs room k xs ps h l = reached room k xs (omega (arith, greedy_all room k xs ps h l))

  -- an unpackable list has no packing in at most k parts
  pub unpackable_none : (room k : ℕ) (xs : List A) → T (unpackable size room k xs) → (ps : List (List A))
      → Packing size room xs ps → length ps ≤ k → ⊥
  unpackable_none room k xs t ps h l = omega (arith, ltb→lt, greedy_all room k xs ps h l)

  -- and a list that has none is unpackable
  pub none_unpackable : (room k : ℕ) (xs : List A)
      → ((ps : List (List A)) → Packing size room xs ps → length ps ≤ k → ⊥) → T (unpackable size room k xs)
  none_unpackable room k xs none =
      ⊎_elim (λ h. absurd (none (greedy size room k xs) (reached room k xs h) (greedy_count room k xs)))
      (λ h. lt→ltb (reach size room k xs) (length xs) h) (le_or_lt (length xs) (reach size room k xs))

  -- ---- the fewest parts

  -- greedy packing that can reach the end in j parts makes no more, however many it may make
  greedy_ends : (room j k : ℕ) (xs : List A) → length xs ≤ reach size room j xs → length (greedy size room k xs) ≤ j
  unfolding greedy reach
  greedy_ends room j zero xs h = omega arith
  greedy_ends room j (suc k) [] h = omega arith
  greedy_ends room zero (suc k) (x ∷ xs) h = absurd (omega arith)
  greedy_ends room (suc j) (suc k) (x ∷ xs) h =
      let n : ℕ = fit size room (x ∷ xs) in
      omega (arith, greedy_ends room j k (drop n (x ∷ xs)) (rw length-drop (omega arith)))

  -- no packing in order has fewer parts
  pub greedy_fewest : (room k : ℕ) (xs : List A) (ps : List (List A)) → Packing size room xs ps
      → length (greedy size room k xs) ≤ length ps
  greedy_fewest room k xs ps h =
      greedy_ends room (length ps) k xs (omega (arith, greedy_all room (length ps) xs ps h (omega arith)))

  -- ---- an element larger than the room

  mem_size : {x : A} {xs : List A} → Memᴰ x xs → size x ≤ size_of size xs
  mem_size (Memᴰ.head e) = omega (arith, ap size e)
  mem_size (Memᴰ.tail m) = omega (arith, mem_size m)

  mem_fits : (room : ℕ) {x : A} (ps : List (List A)) → AllFit size room ps → Memᴰ x (joined ps) → size x ≤ room
  mem_fits room [] h m = absurd (Memᴰ.not-nil m)
  mem_fits room (p ∷ ps) h m =
      ⊎_elim (λ here. omega (arith, h.0, mem_size here)) (λ later. mem_fits room ps h.1 later)
      (Memᴰ.append_cases p m)

  -- a list that has it has no packing
  pub too_large : (room : ℕ) {x : A} {xs : List A} → Memᴰ x xs → room < size x → (ps : List (List A))
      → Packing size room xs ps → ⊥
  too_large room m l ps h = omega (arith, mem_fits room ps h.all_fit (rw (← h.ordered) at m))

  -- so it is unpackable, whatever the number of parts
  pub too_large_unpackable : (room k : ℕ) {x : A} {xs : List A} → Memᴰ x xs → room < size x
      → T (unpackable size room k xs)
  too_large_unpackable room k {xs = xs} m l = none_unpackable room k xs (λ ps h n. too_large room m l ps h)

  -- ---- no part is empty

  -- greedy packing that gets anywhere takes something at once: a part that takes nothing leaves the next where it was
  pub fit_moves : (room k : ℕ) (xs : List A) → 0 < reach size room k xs → 0 < fit size room xs
  unfolding reach
  fit_moves room zero xs h = absurd (omega arith)
  fit_moves room (suc k) xs h =
      let n : ℕ = fit size room xs in
      ⊎_elim (λ none. let e : n ≡ 0 = omega arith in fit_moves room k xs (omega (arith, rw e at h))) (λ some. some)
      (le_or_lt n 0)

  reached_nonempty : (room k : ℕ) (xs : List A) → length xs ≤ reach size room k xs → NoneEmpty (greedy size room k xs)
  unfolding greedy reach
  reached_nonempty room zero xs h = tt
  reached_nonempty room (suc k) [] h = tt
  reached_nonempty room (suc k) (x ∷ xs) h =
      let n : ℕ = fit size room (x ∷ xs) in
      let taken : length (take n (x ∷ xs)) ≡ n = length-take-le n (x ∷ xs) (fit_length room (x ∷ xs)) in
      let moves : 0 < n = fit_moves room (suc k) (x ∷ xs) (omega arith) in
      (omega arith, reached_nonempty room k (drop n (x ∷ xs)) (rw length-drop (omega arith)))

  -- a list that is not unpackable gets no empty part
  pub greedy_nonempty : (room k : ℕ) (xs : List A) → T (not (unpackable size room k xs))
      → NoneEmpty (greedy size room k xs)
  greedy_nonempty room k xs t = reached_nonempty room k xs (nltb→le (reach size room k xs) (length xs) t)

  -- so the first j parts of a packing in order hold at most as many as the first j of the greedy one
  pub greedy_dominates : (room j k : ℕ) (xs : List A) (ps : List (List A)) → Packing size room xs ps → j ≤ k
      → held j ps ≤ held j (greedy size room k xs)
  greedy_dominates room j k xs ps h l = rw (greedy_held room j k xs l) (greedy_best room j xs ps h)
