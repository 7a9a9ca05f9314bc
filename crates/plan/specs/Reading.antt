-- What reading standard input leaves. Assumes nothing.
use Rattle.std.specs.Prelude.{◌≡◌, ℕ, ◌≤◌, List, length, take}

-- n bytes that were read stand at the buffer's front
abbrev pub is_read_into : ℕ → List ℕ → Type 0
is_read_into n buffer = (n ≤ length buffer) × (n ≡ length (take n buffer))
