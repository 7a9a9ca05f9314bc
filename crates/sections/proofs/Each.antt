-- Functions of numbers in a row: by induction on how many. Assumes nothing.
use mathlib.Core.Path.{◌≡◌, refl, sym, ap, ap₂, ◌∙◌}
use mathlib.Core.Bool.{Bool, not}
use mathlib.Core.Logic.{◌⊎◌, inl, inr, ⊎_elim}
use mathlib.Core.List.{List, [], ◌∷◌, ◌++◌, flatten, append-nil, append_assoc}
use mathlib.Core.Option.{none, some}
use Prim.Native.Nat.{ℕ, zero, suc, ◌+◌, ◌-◌, ◌*◌, ◌≤◌, ◌<◌}
use native.Mathlib.Nat.{add-zero, zero-add, add_comm, zero-mul, suc-mul}
use native.Mathlib.Omega.{arith}
use lib.Dec.{T}
use lib.ListN.{length, get_or}
use Rattle.eit.proofs.Test.{test_or, true_is, false_is, le_or_lt}
use Rattle.sections.specs.Every.{Every}
use Rattle.sections.proofs.Every.{every_append}
use Rattle.sections.specs.Each.{each, lowest}

module _ {A : Type 0} where
  pub each_length : (f : ℕ → A) (least n : ℕ) → length (each f least n) ≡ n
  unfolding each
  each_length f least zero = refl
  each_length f least (suc n) = ap suc (each_length f (suc least) n)

  pub each_at : (f : ℕ → A) (d : A) (least n k : ℕ) → k < n → get_or (each f least n) k d ≡ f (least + k)
  unfolding each
  each_at f d least zero k few = absurd (omega arith)
  each_at f d least (suc n) zero few = ap f (omega arith)
  each_at f d least (suc n) (suc k) few = each_at f d (suc least) n k (omega arith) ∙ ap f (omega arith)

  pub each_every : (P : A → Type 0) (f : ℕ → A) (least n : ℕ) → ((k : ℕ) → P (f k)) → Every P (each f least n)
  unfolding each
  each_every P f least zero all = tt
  each_every P f least (suc n) all = (all least, each_every P f (suc least) n all)

  -- the same function, value by value
  pub each_same : (f g : ℕ → A) (least n : ℕ) → ((k : ℕ) → f k ≡ g k) → each f least n ≡ each g least n
  unfolding each
  each_same f g least zero same = refl
  each_same f g least (suc n) same =
      ap₂ (λ (x : A) (xs : List A). x ∷ xs) (same least) (each_same f g (suc least) n same)

  -- the same in the row
  pub each_within : (f g : ℕ → A) (least n : ℕ) → ((k : ℕ) → least ≤ k → k < least + n → f k ≡ g k)
      → each f least n ≡ each g least n
  unfolding each
  each_within f g least zero same = refl
  each_within f g least (suc n) same =
      ap₂ (λ (x : A) (xs : List A). x ∷ xs) (same least (omega arith) (omega arith))
      (each_within f g (suc least) n (λ k low high. same k (omega arith) (omega arith)))

  -- numbers counted from `first` on
  pub each_shift : (f : ℕ → A) (first least n : ℕ) → each (λ (k : ℕ). f (first + k)) least n ≡ each f (first + least) n
  unfolding each
  each_shift f first least zero = refl
  each_shift f first least (suc n) =
      let next : first + suc least ≡ suc (first + least) = omega arith in
      ap (λ (xs : List A). f (first + least) ∷ xs)
      (each_shift f first (suc least) n ∙ ap (λ (k : ℕ). each f k n) next)

  -- a row cut in two
  pub each_split : (f : ℕ → A) (least m n : ℕ) → each f least (m + n) ≡ each f least m ++ each f (least + m) n
  unfolding each
  each_split f least zero n = rw (zero-add, add-zero)
  each_split f least (suc m) n =
      let more : suc m + n ≡ suc (m + n) = omega arith in
      let next : suc least + m ≡ least + suc m = omega arith in
      ap (each f least) more
      ∙ ap (λ (xs : List A). f least ∷ xs)
      (each_split f (suc least) m n ∙ ap (λ (k : ℕ). each f (suc least) m ++ each f k n) next)

  -- rows of m, one behind the other, are one row
  pub each_rows : (f : ℕ → A) (m first n : ℕ)
      → flatten (each (λ (k : ℕ). each f (k * m) m) first n) ≡ each f (first * m) (n * m)
  unfolding each flatten
  each_rows f m first zero = rw zero-mul
  each_rows f m first (suc n) =
      let more : suc n * m ≡ m + n * m = suc-mul n m ∙ add_comm (n * m) m in
      ap (λ (xs : List A). each f (first * m) m ++ xs)
      (each_rows f m (suc first) n ∙ ap (λ (k : ℕ). each f k (n * m)) (suc-mul first m))
      ∙ sym (each_split f (first * m) m (n * m))
      ∙ ap (each f (first * m)) (sym more)

module _ {A : Type 0} (f : ℕ → List A) where
  -- joined, with one more in front
  pub joined_more : (least n : ℕ) → flatten (each f least (suc n)) ≡ f least ++ flatten (each f (suc least) n)
  unfolding each flatten
  joined_more least n = refl

  -- where all are empty
  pub joined_none : (least n : ℕ) → ((k : ℕ) → least ≤ k → k < least + n → f k ≡ []) → flatten (each f least n) ≡ []
  unfolding each flatten
  joined_none least zero empty = refl
  joined_none least (suc n) empty =
      ap₂ (λ (xs ys : List A). xs ++ ys) (empty least (omega arith) (omega arith))
      (joined_none (suc least) n (λ k low high. empty k (omega arith) (omega arith)))

  -- where all are empty but one
  pub joined_only : (i least n : ℕ) → ((k : ℕ) → (k ≡ i → ⊥) → f k ≡ []) → least ≤ i → i < least + n
      → flatten (each f least n) ≡ f i
  joined_only i least zero empty low high = absurd (omega arith)
  joined_only i least (suc n) empty low high =
      joined_more least n
      ∙ ⊎_elim
      (λ here.
      let same : least ≡ i = omega arith in
      ap₂ (λ (xs ys : List A). xs ++ ys) (ap f same)
      (joined_none (suc least) n (λ k later few. empty k (λ e. omega arith)))
      ∙ append-nil (f i))
      (λ later.
      ap (λ (xs : List A). xs ++ flatten (each f (suc least) n)) (empty least (λ e. omega arith))
      ∙ joined_only i (suc least) n empty (omega arith) (omega arith))
      (le_or_lt i least)

-- a list that splits at every number of a row
pub joined_split : {A : Type 0} (f rest : ℕ → List A) → ((k : ℕ) → rest k ≡ f k ++ rest (suc k)) → (least n : ℕ)
    → rest least ≡ flatten (each f least n) ++ rest (least + n)
unfolding each flatten
joined_split f rest splits least zero = ap rest (omega arith)
joined_split {A = A} f rest splits least (suc n) =
    splits least
    ∙ ap (λ (xs : List A). f least ++ xs)
    (joined_split f rest splits (suc least) n
    ∙ ap (λ (k : ℕ). flatten (each f (suc least) n) ++ rest k) (omega arith))
    ∙ sym (append_assoc (f least) (flatten (each f (suc least) n)) (rest (least + suc n)))

-- a function that keeps the joining of two lists keeps that of a row
pub joined_map : {A B : Type 0} (h : List A → List B) → h [] ≡ [] → ((xs ys : List A) → h (xs ++ ys) ≡ h xs ++ h ys)
    → (f : ℕ → List A) (least n : ℕ) → h (flatten (each f least n)) ≡ flatten (each (λ (k : ℕ). h (f k)) least n)
unfolding each flatten
joined_map h nil append f least zero = nil
joined_map {B = B} h nil append f least (suc n) =
    append (f least) (flatten (each f (suc least) n))
    ∙ ap (λ (ys : List B). h (f least) ++ ys) (joined_map h nil append f (suc least) n)

flatten_append : {A : Type 0} (xss yss : List (List A)) → flatten (xss ++ yss) ≡ flatten xss ++ flatten yss
unfolding flatten
flatten_append [] yss = refl
flatten_append {A = A} (xs ∷ xss) yss =
    ap (λ (zs : List A). xs ++ zs) (flatten_append xss yss) ∙ sym (append_assoc xs (flatten xss) (flatten yss))

-- a row cut in two, joined
pub joined_each_split : {A : Type 0} (f : ℕ → List A) (least m n : ℕ)
    → flatten (each f least (m + n)) ≡ flatten (each f least m) ++ flatten (each f (least + m) n)
joined_each_split f least m n =
    ap flatten (each_split f least m n) ∙ flatten_append (each f least m) (each f (least + m) n)

-- where all behind the first m are empty
pub joined_front : {A : Type 0} (f : ℕ → List A) (least m n : ℕ) → m ≤ n
    → ((k : ℕ) → least + m ≤ k → k < least + n → f k ≡ []) → flatten (each f least m) ≡ flatten (each f least n)
joined_front {A = A} f least m n few empty =
    let front : List A = flatten (each f least m) in
    let all : m + (n - m) ≡ n = omega arith in
    sym (append-nil front)
    ∙ ap (λ (xs : List A). front ++ xs)
    (sym (joined_none f (least + m) (n - m) (λ k low high. empty k low (omega arith))))
    ∙ sym (joined_each_split f least m (n - m))
    ∙ ap (λ (k : ℕ). flatten (each f least k)) all

-- rows of m, each joined, one behind the other
pub joined_rows : {A : Type 0} (f : ℕ → List A) (m first n : ℕ)
    → flatten (each (λ (k : ℕ). flatten (each f (k * m) m)) first n) ≡ flatten (each f (first * m) (n * m))
unfolding flatten
joined_rows f m first n =
    sym (joined_map flatten refl flatten_append (λ (k : ℕ). each f (k * m) m) first n)
    ∙ ap flatten (each_rows f m first n)

-- what holds of every element of each list in a row holds of every element of the joined list
pub joined_every : {A : Type 0} (P : A → Type 0) (f : ℕ → List A) (least n : ℕ)
    → ((k : ℕ) → least ≤ k → k < least + n → Every P (f k)) → Every P (flatten (each f least n))
unfolding each flatten
joined_every P f least zero all = tt
joined_every P f least (suc n) all =
    every_append P (f least) (flatten (each f (suc least) n)) (all least (omega arith) (omega arith))
    (joined_every P f (suc least) n (λ k low high. all k (omega arith) (omega arith)))

-- ---- the lowest that passes a test: none passes, or one does and none before it
pub lowest_or : (p : ℕ → Bool) (least n : ℕ)
    → ((lowest p least n ≡ none) × ((i : ℕ) → least ≤ i → i < least + n → T (not (p i))))
    ⊎ ((i : ℕ) × (lowest p least n ≡ some i) × (i < least + n) × T (p i)
    × ((j : ℕ) → least ≤ j → j < i → T (not (p j))))
unfolding lowest
lowest_or p least zero = inl (refl, λ i low high. absurd (omega arith))
lowest_or p least (suc n) =
    ⊎_elim
    (λ here. inr (least, rw (lowest, true_is (p least) here), omega arith, here, λ j low high. absurd (omega arith)))
    (λ not-here.
    let skips : lowest p least (suc n) ≡ lowest p (suc least) n = rw (lowest, false_is (p least) not-here) in
    let fails : (i : ℕ) → i ≡ least → T (not (p i)) = λ i same. rw same not-here in
    ⊎_elim
    (λ (ends, all). inl (
      skips ∙ ends,
      λ i low high. ⊎_elim (λ first. fails i (omega arith)) (λ later. all i later (omega arith)) (le_or_lt i least),
    ))
    (λ (i, is, high, passes, before). inr (
      i,
      skips ∙ is,
      omega arith,
      passes,
      λ j low less. ⊎_elim (λ first. fails j (omega arith)) (λ later. before j later less) (le_or_lt j least),
    ))
    (lowest_or p (suc least) n))
    (test_or (p least))

-- the same the other way: where none passes, and where one does and none before it
pub no_lowest : (p : ℕ → Bool) (least n : ℕ) → ((i : ℕ) → least ≤ i → i < least + n → T (not (p i)))
    → lowest p least n ≡ none
unfolding lowest
no_lowest p least zero fails = refl
no_lowest p least (suc n) fails =
    rw (lowest, false_is (p least) (fails least (omega arith) (omega arith)))
    (no_lowest p (suc least) n (λ i low high. fails i (omega arith) (omega arith)))

pub lowest_is : (p : ℕ → Bool) (i least n : ℕ) → least ≤ i → i < least + n → T (p i)
    → ((j : ℕ) → least ≤ j → j < i → T (not (p j))) → lowest p least n ≡ some i
unfolding lowest
lowest_is p i least zero low high passes before = absurd (omega arith)
lowest_is p i least (suc n) low high passes before =
    ⊎_elim
    (λ first.
    let here : least ≡ i = omega arith in
    rw (lowest, true_is (p least) (rw here passes)) (ap some here))
    (λ later.
    rw (lowest, false_is (p least) (before least (omega arith) later))
    (lowest_is p i (suc least) n later (omega arith) passes (λ j behind less. before j (omega arith) less)))
    (le_or_lt i least)
