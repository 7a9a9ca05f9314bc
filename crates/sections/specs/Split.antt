-- Bytes split into pieces by the lengths that they state: sections of a file, events of a section. It asks for nothing
-- and refuses nothing: a last piece that is truncated is shorter than it says. Laws: proofs/Split.antt.
-- Assumes nothing.
use Rattle.std.specs.Prelude.{ℕ, zero, suc, pred, List, [], ◌∷◌, take}

-- the pieces of bs, of which the first `skip` bytes belong to a piece that has begun; `size` is the length that the
-- bytes at the front of a piece state, and at least 1
abbrev pub split_from : (List ℕ → ℕ) → ℕ → List ℕ → List (List ℕ)
split_from size skip [] = []
split_from size (suc skip) (b ∷ bs) = split_from size skip bs
split_from size zero (b ∷ bs) = take (size (b ∷ bs)) (b ∷ bs) ∷ split_from size (pred (size (b ∷ bs))) bs

unfoldable pub split_by : (List ℕ → ℕ) → List ℕ → List (List ℕ)
split_by size bs = split_from size 0 bs
