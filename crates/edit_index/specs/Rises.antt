-- Starts that rise (01, "Event record and sound list": starts rise strictly). Laws: proofs/RiseLaws.antt. Assumes
-- nothing.
use Rattle.std.specs.Prelude.{ℕ, ◌<◌, List, length, get_or}

-- strictly, at any two places
abbrev pub Rises : List ℕ → Type 0
Rises starts = (i j : ℕ) → i < j → j < length starts → get_or starts i 0 < get_or starts j 0
