-- The section at an offset of a file, by its length field alone, and the offset behind it (01, "The file of sections":
-- a file is sections joined). Laws: proofs/SectionAtLaws.antt. Assumes nothing.
use Rattle.std.specs.Prelude.{ℕ, ◌+◌, List, length, take, drop}
use Rattle.sections.specs.Decode.{stated_section_size}

-- the bytes from the offset on, as many as section_length states; none where the file has ended
abbrev pub section_at : List ℕ → ℕ → List ℕ
section_at file offset = take (stated_section_size (drop offset file)) (drop offset file)

-- the offset behind the section at an offset; where the file has ended, the offset itself
abbrev pub section_end : List ℕ → ℕ → ℕ
section_end file offset = offset + length (section_at file offset)
