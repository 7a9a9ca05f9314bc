-- Writing into a lent buffer: some numbers are written over those from an offset on, and all others stay.
-- Laws, above all how writes compose: proofs/Overwrite.antt. Assumes nothing.
use Rattle.std.specs.Prelude.{ℕ, ◌+◌, List, ◌++◌, length, take, drop}

-- d with xs written over it from `at` on
abbrev pub overwrite : {A : Type 0} → List A → ℕ → List A → List A
overwrite d at xs = take at d ++ xs ++ drop (at + length xs) d
