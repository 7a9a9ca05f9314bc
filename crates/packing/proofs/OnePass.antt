-- The pass holds all elements exactly if greedy packing reaches the end (`pass_packs`), by induction over the elements;
-- and a smaller element leaves the pass ahead (`smaller_held`): ahead is to have more parts to begin, or as many and no
-- less room. Assumes nothing.
use mathlib.Core.Path.{◌≡◌, refl, sym, ap, subst, ◌∙◌}
use mathlib.Core.Logic.{◌⊎◌, inl, inr, ⊎_elim}
use mathlib.Core.Bool.{Bool, true, false, not, ◌&&◌}
use mathlib.Core.List.{List, [], ◌∷◌, ◌++◌}
use Prim.Native.Nat.{ℕ, suc, ◌+◌, ◌-◌, ◌≤◌, ◌<◌}
use native.Mathlib.Omega.{arith}
use borrow.Author.Tests.{le-leb, lt-leb, le-ltb, lt-ltb}
use lib.Dec.{T, leb}
use Rattle.std.specs.Prelude.{Option, Some, None, is_some}
use lib.ListN.{length, drop}
use Rattle.packing.specs.declared.Filling.{Filling}
use Rattle.packing.specs.Greedy.{fit, reach, unpackable}
use Rattle.packing.specs.OnePass.{begun, added, added_to, filled}
use Rattle.packing.proofs.Greedy.{by_test, le_or_lt, reach_none, reach_more, fit_moves}

-- ---- an element, case by case

module _ (room : ℕ) (f : Filling) (size : ℕ) where
  abbrev into_last : Filling
  into_last = record { more = f.more; free = f.free - size }

  abbrev into_new : Filling
  into_new = record { more = f.more - 1; free = room - size }

  pub added_last : size ≤ f.free → added room f size ≡ Some into_last
  unfolding added
  added_last fits = rw (added, le-leb size f.free fits)

  pub added_new : f.free < size → 1 ≤ f.more → size ≤ room → added room f size ≡ Some into_new
  unfolding added
  added_new full some fits = rw (added, lt-leb size f.free full, le-leb 1 f.more some, le-leb size room fits)

  pub added_none : f.free < size → (f.more ≡ 0) ⊎ (room < size) → added room f size ≡ None
  unfolding added
  added_none full no_room =
      ⊎_elim (λ none_left. rw (added, lt-leb size f.free full, lt-leb 1 f.more (omega arith)))
      (λ large. rw (added, lt-leb size f.free full, lt-leb size room large, and_false (leb 1 f.more))) no_room
    where
      and_false : (b : Bool) → (b && false) ≡ false
      and_false true = refl
      and_false false = refl

  added_or : {C : Type 0} → (size ≤ f.free → added room f size ≡ Some into_last → C)
      → (f.free < size → 1 ≤ f.more → size ≤ room → added room f size ≡ Some into_new → C)
      → (f.free < size → (f.more ≡ 0) ⊎ (room < size) → added room f size ≡ None → C)
      → C
  added_or last new none =
      ⊎_elim (λ fits. last fits (added_last fits))
      (λ full.
      ⊎_elim
      (λ some.
      ⊎_elim (λ fits. new full some fits (added_new full some fits))
      (λ large. none full (inr large) (added_none full (inr large))) (le_or_lt size room))
      (λ few. let no_more : f.more ≡ 0 = omega arith in none full (inl no_more) (added_none full (inl no_more)))
      (le_or_lt 1 f.more))
      (le_or_lt size f.free)

-- ---- the pass holds what greedy packing reaches

module _ {A : Type 0} (size : A → ℕ) (room : ℕ) where
  -- how many of the next elements the last part and those that may follow take
  abbrev reached : Filling → List A → ℕ
  reached f xs = let n = fit size f.free xs in n + reach size room f.more (drop n xs)

  fit_first : (bytes : ℕ) (x : A) (xs : List A) → size x ≤ bytes
      → fit size bytes (x ∷ xs) ≡ suc (fit size (bytes - size x) xs)
  fit_first bytes x xs fits = rw (fit, le-leb (size x) bytes fits)

  fit_none : (bytes : ℕ) (x : A) (xs : List A) → bytes < size x → fit size bytes (x ∷ xs) ≡ 0
  fit_none bytes x xs large = rw (fit, lt-leb (size x) bytes large)

  one_more : (n m : ℕ) → suc n + m ≡ suc (n + m)
  one_more n m = omega arith

  from_none : (n : ℕ) → 0 + n ≡ n
  from_none n = omega arith

  reached_last : (f : Filling) (x : A) (xs : List A) → size x ≤ f.free
      → reached f (x ∷ xs) ≡ suc (reached (into_last room f (size x)) xs)
  reached_last f x xs fits =
      let n : ℕ = fit size (f.free - size x) xs in
      ap (λ (m : ℕ). m + reach size room f.more (drop m (x ∷ xs))) (fit_first f.free x xs fits)
      ∙ one_more n (reach size room f.more (drop n xs))

  reached_new : (f : Filling) (x : A) (xs : List A) → f.free < size x → 1 ≤ f.more → size x ≤ room
      → reached f (x ∷ xs) ≡ suc (reached (into_new room f (size x)) xs)
  reached_new f x xs full some fits =
      let k : ℕ = f.more - 1 in
      let n : ℕ = fit size (room - size x) xs in
      let e : f.more ≡ suc k = omega arith in
      ap (λ (m : ℕ). m + reach size room f.more (drop m (x ∷ xs))) (fit_none f.free x xs full)
      ∙ from_none (reach size room f.more (x ∷ xs))
      ∙ ap (λ (j : ℕ). reach size room j (x ∷ xs)) e
      ∙ reach_more size room k (x ∷ xs)
      ∙ ap (λ (m : ℕ). m + reach size room k (drop m (x ∷ xs))) (fit_first room x xs fits)
      ∙ one_more n (reach size room k (drop n xs))

  reached_none : (f : Filling) (x : A) (xs : List A) → f.free < size x → (f.more ≡ 0) ⊎ (room < size x)
      → reached f (x ∷ xs) ≡ 0
  reached_none f x xs full no_room =
      let taken : ℕ = reach size room f.more (x ∷ xs) in
      ap (λ (m : ℕ). m + reach size room f.more (drop m (x ∷ xs))) (fit_none f.free x xs full)
      ∙ from_none taken
      ∙ ⊎_elim (λ none_left. ap (λ (k : ℕ). reach size room k (x ∷ xs)) none_left ∙ reach_none size room (x ∷ xs))
      (λ large.
      ⊎_elim (λ none-taken. let is : taken ≡ 0 = omega arith in is)
      (λ some-taken.
      absurd (omega (arith, fit_none room x xs large, fit_moves size room f.more (x ∷ xs) some-taken)))
      (le_or_lt taken 0))
      no_room

  -- once an element is not held, the pass does not hold them all
  pub filled_none : (xs : List A) → filled size room None xs ≡ None
  filled_none [] = refl
  filled_none (x ∷ xs) = filled_none xs

  -- the pass holds them all exactly if those are all
  abbrev holds : List A → Option Filling → Type 0
  holds xs f = T (is_some (filled size room f xs))

  pass_reaches : (f : Filling) (xs : List A) → holds xs (Some f) → length xs ≤ reached f xs
  pass_reaches f [] held = omega arith
  pass_reaches f (x ∷ xs) held =
      added_or room f (size x)
      (λ fits is.
      omega (
        arith,
        reached_last f x xs fits,
        pass_reaches (into_last room f (size x)) xs (subst (holds xs) is held),
      ))
      (λ full some fits is.
      omega (
        arith,
        reached_new f x xs full some fits,
        pass_reaches (into_new room f (size x)) xs (subst (holds xs) is held),
      ))
      (λ full no_room is.
      absurd (subst (λ (f : Option Filling). T (is_some f)) (filled_none xs) (subst (holds xs) is held)))

  pass_holds : (f : Filling) (xs : List A) → length xs ≤ reached f xs → holds xs (Some f)
  pass_holds f [] enough = tt
  pass_holds f (x ∷ xs) enough =
      added_or room f (size x)
      (λ fits is.
      subst (holds xs) (sym is)
      (pass_holds (into_last room f (size x)) xs (omega (arith, reached_last f x xs fits))))
      (λ full some fits is.
      subst (holds xs) (sym is)
      (pass_holds (into_new room f (size x)) xs (omega (arith, reached_new f x xs full some fits))))
      (λ full no_room is. absurd (omega (arith, reached_none f x xs full no_room)))

  -- so it tells whether a list is unpackable
  pub pass_packs : (k : ℕ) (xs : List A)
      → unpackable size room (suc k) xs ≡ not (is_some (filled size room (Some (begun room k)) xs))
  pass_packs k xs =
      let f : Filling = begun room k in
      let all : reach size room (suc k) xs ≡ reached f xs = reach_more size room k xs in
      by_test (is_some (filled size room (Some f) xs))
      (λ held.
      le-ltb (reach size room (suc k) xs) (length xs) (omega (arith, pass_reaches f xs (subst T (sym held) tt)))
      ∙ sym (ap not held))
      (λ fails.
      lt-ltb (reach size room (suc k) xs) (length xs)
      (⊎_elim (λ enough. absurd (subst T fails (pass_holds f xs (omega arith)))) (λ short. short)
      (le_or_lt (length xs) (reach size room (suc k) xs)))
      ∙ sym (ap not fails))

-- ---- a smaller element leaves the pass ahead

-- more parts to begin, or as many and no less room
abbrev Leads : ℕ → Filling → Filling → Type 0
Leads room f g = ((g.more < f.more) × (g.free ≤ room)) ⊎ ((f.more ≡ g.more) × (g.free ≤ f.free))

-- the first pass holds its elements and leads, as long as the second holds its own
abbrev Ahead : ℕ → Option Filling → Option Filling → Type 0
Ahead room f None = Unit {0}
Ahead room None (Some g) = ⊥
Ahead room (Some f) (Some g) = Leads room f g

ahead_added : (room : ℕ) (f g : Filling) → Leads room f g → (s t : ℕ) → s ≤ t
    → Ahead room (added room f s) (added room g t)
ahead_added room f g leads s t less =
    added_or room g t
    (λ fits is.
    added_or room f s
    (λ fits' is'. rw (is, is')
    (⊎_elim (λ (m, n). inl (omega arith, omega arith)) (λ (m, n). inr (omega arith, omega arith)) leads))
    (λ full' some' fits' is'. rw (is, is')
    (⊎_elim
    (λ (m, n).
    ⊎_elim (λ k. inl (omega arith, omega arith)) (λ k. inr (omega arith, omega arith))
    (le_or_lt (suc g.more) (f.more - 1)))
    (λ (m, n). absurd (omega arith)) leads))
    (λ full' no-room' is'. rw (is, is')
    (absurd (⊎_elim (λ (m, n). ⊎_elim (λ k. omega arith) (λ k. omega arith) no-room') (λ (m, n). omega arith) leads))))
    (λ full some fits is.
    added_or room f s
    (λ fits' is'. rw (is, is')
    (⊎_elim (λ (m, n). inl (omega arith, omega arith)) (λ (m, n). inl (omega arith, omega arith)) leads))
    (λ full' some' fits' is'. rw (is, is')
    (⊎_elim (λ (m, n). inl (omega arith, omega arith)) (λ (m, n). inr (omega arith, omega arith)) leads))
    (λ full' no-room' is'. rw (is, is')
    (absurd (⊎_elim (λ (m, n). ⊎_elim (λ k. omega arith) (λ k. omega arith) no-room')
    (λ (m, n). ⊎_elim (λ k. omega arith) (λ k. omega arith) no-room') leads))))
    (λ full no_room is. rw is tt)

ahead_to : (room : ℕ) (f g : Option Filling) → Ahead room f g → (s : ℕ)
    → Ahead room (added_to room f s) (added_to room g s)
ahead_to room f None ahead s = tt
ahead_to room None (Some g) ahead s = absurd ahead
ahead_to room (Some f) (Some g) ahead s = ahead_added room f g ahead s s (omega arith)

ahead_held : (room : ℕ) (f g : Option Filling) → Ahead room f g → T (is_some g) → T (is_some f)
ahead_held room f None ahead held = absurd held
ahead_held room None (Some g) ahead held = absurd ahead
ahead_held room (Some f) (Some g) ahead held = tt

module _ {A : Type 0} (size : A → ℕ) (room : ℕ) where
  ahead_filled : (f g : Option Filling) (xs : List A) → Ahead room f g
      → Ahead room (filled size room f xs) (filled size room g xs)
  ahead_filled f g [] ahead = ahead
  ahead_filled f g (x ∷ xs) ahead =
      ahead_filled (added_to room f (size x)) (added_to room g (size x)) xs (ahead_to room f g ahead (size x))

  -- where all are held with an element of t, they are with a smaller one in its place
  pub smaller_held : (f : Option Filling) (s t : ℕ) (xs : List A) → s ≤ t
      → T (is_some (filled size room (added_to room f t) xs))
      → T (is_some (filled size room (added_to room f s) xs))
  smaller_held None s t xs less held = held
  smaller_held (Some f) s t xs less held =
      ahead_held room (filled size room (added room f s) xs) (filled size room (added room f t) xs)
      (ahead_filled (added room f s) (added room f t) xs
      (ahead_added room f f (inr (refl, omega arith)) s t less))
      held

  -- elements in two goes
  pub filled_append : (f : Option Filling) (xs ys : List A)
      → filled size room f (xs ++ ys) ≡ filled size room (filled size room f xs) ys
  filled_append f [] ys = refl
  filled_append f (x ∷ xs) ys = filled_append (added_to room f (size x)) xs ys
