-- Greedy packing of numbers, each of its own size, computed. The value is in proofs/Examples.antt. Assumes nothing.
use Rattle.std.specs.Prelude.{ℕ, ◌≡◌, true, false, List, [], ◌∷◌, Some, None}
use Rattle.packing.specs.Greedy.{fit, reach, greedy, unpackable}
use Rattle.packing.specs.OnePass.{begun, filled}

abbrev pub own : ℕ → ℕ
own n = n

-- in a room of 4 the first two fill a part, the third has one to itself, and the last fills one
abbrev pub four : List ℕ
four = 2 ∷ 2 ∷ 1 ∷ 4 ∷ []

pub record Examples : Type 0 where
  pub fills : fit own 4 four ≡ 2
  pub parts : greedy own 4 8 four ≡ (2 ∷ 2 ∷ []) ∷ (1 ∷ []) ∷ (4 ∷ []) ∷ []
  pub reached : reach own 4 2 four ≡ 3
  pub packable : unpackable own 4 3 four ≡ false
  pub part_short : unpackable own 4 2 four ≡ true
  -- an element that is larger than the room
  pub too_large : unpackable own 4 8 (5 ∷ []) ≡ true
  -- the pass: what is left after three parts; a part too few; and not held once an element was not
  pub pass : filled own 4 (Some (begun 4 2)) four ≡ Some (record { more = 0; free = 0 })
  pub pass_short : filled own 4 (Some (begun 4 1)) four ≡ None
  pub pass_large : filled own 4 (Some (begun 4 8)) (5 ∷ 4 ∷ 4 ∷ []) ≡ None
