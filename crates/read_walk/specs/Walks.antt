-- A walk from section to section: what the reader gives, and the reader behind it (01, "Build, Read": "The walk is a
-- reader that carries the borrowed file and an offset"). Laws: proofs/SectionAtLaws.antt. Assumes nothing.
use Rattle.std.specs.Prelude.{ℕ, ◌-◌, ◌≡◌, ◌≤◌, ◌<◌, List, length, Option, MatchOption}
use Rattle.std.specs.Borrow.{Bor}
use Rattle.read_walk.specs.declared.SectionReader.{SectionReader}
use Rattle.read_walk.specs.SectionAt.{section_at, section_end}

-- how many bytes stand from the reader's offset on
abbrev pub bytes_left : SectionReader → ℕ
bytes_left s = length s.file.now - s.offset

-- the section at the reader's offset, and that offset; nothing where the file has ended
abbrev pub Walks : SectionReader → Option (ℕ × Bor (List ℕ)) → SectionReader → Type 0
Walks s r t =
    (t.file ≡ s.file)
    × MatchOption r
    ((length s.file.now ≤ s.offset) × (t.offset ≡ s.offset))
    (λ x.
    (s.offset < length s.file.now) × (x.0 ≡ s.offset) × (x.1.now ≡ section_at s.file.now s.offset)
    × (t.offset ≡ section_end s.file.now s.offset))
