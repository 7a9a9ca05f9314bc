-- A file is its sections joined: what is cut out of its bytes, what joining gives, and how many events the walk has
-- seen. By the definitions. Assumes nothing.
use mathlib.Core.Path.{◌≡◌, refl, ap, ◌∙◌}
use Prim.Native.Nat.{ℕ}
use native.Mathlib.Omega.{arith}
use mathlib.Core.List.{List, [], map, flatten}
use lib.ListN.{length}
use Rattle.sections.specs.Section.{Section, section_events}
use Rattle.sections.specs.Encode.{section_bytes, file_bytes}
use Rattle.sections.specs.Decode.{stated_section_size, section_in, split_file, sections_in}
use Rattle.sections.specs.Walk.{at_start, behind_all}
use Rattle.sections.specs.Read.{file_records}
use Rattle.sections.specs.Offsets.{records_from}
use Rattle.sections.proofs.Split.{split_joined}
use Rattle.sections.proofs.Order.{seen_length}
use Rattle.sections.proofs.Forth.{shown_seen}
use Rattle.sections.proofs.Offsets.{records_count}

pub file_joined : (file : List ℕ) → flatten (split_file file) ≡ file
unfolding split_file
file_joined file = split_joined stated_section_size (λ bs. omega arith) file

pub sections_are : (base : ℕ) (file : List ℕ) → sections_in base file ≡ map (section_in base) (split_file file)
unfolding sections_in
sections_are base file = refl

pub bytes_are : (base : ℕ) (ss : List Section) → file_bytes base ss ≡ flatten (map (section_bytes base) ss)
unfolding file_bytes
bytes_are base ss = refl

pub records_are : (base : ℕ) (file : List ℕ) → file_records base file ≡ records_from 0 (sections_in base file)
unfolding file_records
records_are base file = refl

-- the events that the walk has seen are those of the sections
pub seen_count : (base : ℕ) (file : List ℕ)
    → length (behind_all base at_start (split_file file)).seen ≡ length (file_records base file)
seen_count base file =
    let ss : List Section = map (section_in base) (split_file file) in
    ap length (shown_seen base at_start (split_file file))
    ∙ seen_length (section_events ss) []
    ∙ omega (
      arith,
      records_count 0 ss,
      ap length (records_are base file),
      ap (λ (ts : List Section). length (records_from 0 ts))
          (sections_are base file),
    )
