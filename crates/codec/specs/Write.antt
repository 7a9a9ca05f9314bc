-- A write into a lent buffer that tests its place. Laws: proofs/WriteLaws.antt. Assumes nothing.
use Rattle.std.specs.Prelude.{ℕ, ◌+◌, true, false, List, leb, length}
use Rattle.eit.specs.Overwrite.{overwrite}

-- d with xs written over it from `at` on; where they do not fit, d stays
abbrev pub write_at : {A : Type 0} → List A → ℕ → List A → List A
write_at d at xs = elim (leb (at + length xs) (length d)) [ true ↦ overwrite d at xs | false ↦ d ]
