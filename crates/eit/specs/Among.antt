-- Numbers that are among others, and numbers that all differ (01, "Event record and sound list": ids differ; "Edit": an
-- id is present or absent). Laws: proofs/Among.antt. Assumes nothing.
use Rattle.std.specs.Prelude.{ℕ, Bool, true, false, not, ◌&&◌, ◌||◌, List, [], ◌∷◌, eqb}

-- whether a number is one of some numbers
abbrev pub is_among : ℕ → List ℕ → Bool
is_among n [] = false
is_among n (m ∷ ms) = eqb n m || is_among n ms

-- no two of the numbers are equal
abbrev pub all_differ : List ℕ → Bool
all_differ [] = true
all_differ (n ∷ ns) = not (is_among n ns) && all_differ ns
