-- A text written into a lent buffer, as far as there is room: what does not fit is left out, and all else stays. Laws:
-- proofs/FillLaws.antt. Assumes nothing.
use Rattle.std.specs.Prelude.{ℕ, ◌+◌, ◌-◌, ◌≡◌, List, length, take}
use Rattle.eit.specs.Overwrite.{overwrite}

-- what of a text has room in d from `at` on
abbrev pub fitting : List ℕ → ℕ → List ℕ → List ℕ
fitting d at text = take (length d - at) text

-- d with that much of the text written over it
abbrev pub filled : List ℕ → ℕ → List ℕ → List ℕ
filled d at text = overwrite d at (fitting d at text)

-- and the offset behind it
abbrev pub filled_to : List ℕ → ℕ → List ℕ → ℕ
filled_to d at text = at + length (fitting d at text)

-- writing a text so leaves these bytes of the buffer, and returns this offset
abbrev pub Fills : List ℕ → ℕ → List ℕ → List ℕ → ℕ → Type 0
Fills d at text after end = (after ≡ filled d at text) × (end ≡ filled_to d at text)
