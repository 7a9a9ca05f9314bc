-- Bytes are split into pieces that joined are the bytes, and joined pieces that state their lengths are split into just
-- these: by induction over the bytes, where those of a piece that has begun are skipped (`split_skip`), so that each
-- step is a whole piece. Assumes nothing.
use mathlib.Core.Path.{◌≡◌, refl, sym, ap, ap₂, ◌∙◌}
use mathlib.Core.List.{List, [], ◌∷◌, ◌++◌, flatten}
use Prim.Native.Nat.{ℕ, zero, suc, pred, ◌<◌}
use native.Mathlib.Omega.{arith}
use lib.ListN.{length, take, drop, length-append, take-append-drop}
use lib.Seq.{drop-nil, take_at, drop_at}
use Rattle.sections.specs.Every.{Every}
use Rattle.sections.specs.Split.{split_from, split_by}

-- ---- the equations that a reader expects

-- what belongs to a piece that has begun is skipped
split_skip : (size : List ℕ → ℕ) (k : ℕ) (bs : List ℕ) → split_from size k bs ≡ split_from size 0 (drop k bs)
split_skip size zero bs = refl
split_skip size (suc k) [] = refl
split_skip size (suc k) (b ∷ bs) = split_skip size k bs

-- the first byte of a piece, then the others
drop_first : (n b : ℕ) (bs : List ℕ) → 0 < n → drop (pred n) bs ≡ drop n (b ∷ bs)
drop_first zero b bs some = absurd (omega arith)
drop_first (suc n) b bs some = refl

pub split_nil : (size : List ℕ → ℕ) → split_by size [] ≡ []
unfolding split_by
split_nil size = refl

pub split_next : (size : List ℕ → ℕ) (bs : List ℕ) → 0 < length bs → 0 < size bs
    → split_by size bs ≡ take (size bs) bs ∷ split_by size (drop (size bs) bs)
unfolding split_by
split_next size [] some stated = absurd (omega arith)
split_next size (b ∷ bs) some stated =
    let n : ℕ = size (b ∷ bs) in
    ap (λ (rest : List (List ℕ)). take n (b ∷ bs) ∷ rest)
    (split_skip size (pred n) bs ∙ ap (split_from size 0) (drop_first n b bs stated))

-- ---- the pieces joined are the bytes

joined_from : (size : List ℕ → ℕ) → ((bs : List ℕ) → 0 < size bs) → (skip : ℕ) (bs : List ℕ)
    → flatten (split_from size skip bs) ≡ drop skip bs
unfolding flatten
joined_from size some skip [] = sym (drop-nil skip)
joined_from size some (suc skip) (b ∷ bs) = joined_from size some skip bs
joined_from size some zero (b ∷ bs) =
    let n : ℕ = size (b ∷ bs) in
    ap (λ (rest : List ℕ). take n (b ∷ bs) ++ rest)
    (joined_from size some (pred n) bs ∙ drop_first n b bs (some (b ∷ bs)))
    ∙ take-append-drop n (b ∷ bs)

pub split_joined : (size : List ℕ → ℕ) → ((bs : List ℕ) → 0 < size bs) → (bs : List ℕ) → flatten (split_by size bs) ≡ bs
unfolding split_by
split_joined size some bs = joined_from size some 0 bs

-- ---- joined pieces that state their lengths are split into these pieces

-- a piece that states its own length, whatever stands behind it
pub record Stated (size : List ℕ → ℕ) (x : List ℕ) : Type 0 where
  pub some : 0 < length x
  pub stated : (rest : List ℕ) → size (x ++ rest) ≡ length x

pub split_back : (size : List ℕ → ℕ) (xs : List (List ℕ)) → Every (Stated size) xs → split_by size (flatten xs) ≡ xs
unfolding flatten
split_back size [] h = split_nil size
split_back size (x ∷ xs) h =
    let bs : List ℕ = x ++ flatten xs in
    let known : size bs ≡ length x = h.0.stated (flatten xs) in
    let first : 0 < length x = h.0.some in
    let piece : take (size bs) bs ≡ x = take_at x (flatten xs) (size bs) (sym known) in
    let behind : drop (size bs) bs ≡ flatten xs = drop_at x (flatten xs) (size bs) (sym known) in
    split_next size bs (simp length-append (omega arith)) (omega arith)
    ∙ ap₂ (λ (y : List ℕ) (ys : List (List ℕ)). y ∷ ys) piece (ap (split_by size) behind ∙ split_back size xs h.1)
