-- Read as one total function of file, base day and record buffer, and check, which has no record buffer (01, "Build,
-- Read", "When a call says no"). Laws: proofs/Read.antt, proofs/Exact.antt. Assumes nothing.
use Rattle.std.specs.Prelude.{ℕ, ◌*◌, Bool, true, false, ◌&&◌, List, [], ◌∷◌, eqb, leb, length}
use Rattle.std.proofs.Math.Option.{Option, none, some}
use Rattle.eit.specs.declared.Sizes.{Sizes}
use Rattle.eit.specs.Limits.{base_day_max}
use Rattle.eit.specs.Identity.{tables, zero_identity}
use Rattle.eit.specs.Overwrite.{overwrite}
use Rattle.eit.specs.Records.{EventList, record_size, numbers_of_all}
use Rattle.eit.specs.declared.Identity.{Identity}
use Rattle.eit.specs.declared.Record.{Record}
use Rattle.sections.specs.Each.{each}
use Rattle.sections.specs.Segment.{table_first}
use Rattle.sections.specs.Section.{Header}
use Rattle.sections.specs.Decode.{split_file, sections_in}
use Rattle.sections.specs.Offsets.{records_from}
use Rattle.sections.specs.HeaderTests.{latest, version_in}
use Rattle.sections.specs.Walk.{at_start, Verdict, passed, refused, walk}

-- the file ends after last_table_id
abbrev pub is_complete : Option Header → Bool
is_complete none = false
is_complete (some h) = eqb h.section_number h.last_section_number && eqb h.table_id h.last_table_id

-- the version of a table's sections; 02, W-208: "Read gives 0 for absent tables"
abbrev pub version_or_zero : Option ℕ → ℕ
version_or_zero none = 0
version_or_zero (some version) = version

-- the versions of all tables, by the headers of a file's sections
unfoldable pub versions_in : List Header → List ℕ
unfolding each
versions_in hs = each (λ (table : ℕ). version_or_zero (version_in hs table)) table_first tables

-- the identity of the file, by the headers of its sections: the triplet of the last, which all have, and the versions
abbrev pub identity_of : List Header → Identity
identity_of [] = zero_identity
identity_of (h ∷ hs) = record { triplet = h.triplet; versions = versions_in (h ∷ hs) }

-- what is returned: number and value of the answer, the identity and the number of events. A refusal has identity 0 and
-- count 0
pub record Answer : Type 0 where
  pub number : ℕ
  pub value : ℕ
  pub identity : Identity
  pub count : ℕ

-- a refusal: its number and what it returns
abbrev pub refusal : ℕ → ℕ → Answer
refusal number value = record { number = number; value = value; identity = zero_identity; count = 0 }

-- success is number 0 and returns the number of events
abbrev pub success : Identity → ℕ → Answer
success identity count = record { number = 0; value = count; identity = identity; count = count }

-- at the end 25: file ends early, or is empty
abbrev pub at_end : ℕ → Verdict → Answer
at_end size (refused number offset) = refusal number offset
at_end size (passed p) =
    elim (is_complete (latest p.before)) [
      | true ↦ success (identity_of p.before) (length p.seen)
      | false ↦ refusal 25
          size
    ]

-- Read without a record buffer: 1; per section; at the end 25. It never says 27
unfoldable pub check_file : Sizes → ℕ → List ℕ → Answer
unfolding walk split_file
check_file sizes base file =
    elim (leb base base_day_max) [
      | true ↦ at_end (length file) (walk sizes base at_start (split_file file))
      | false ↦ refusal
          1 0
    ]

-- what Read returns, and the record buffer after it
pub record Reading : Type 0 where
  pub answer : Answer
  pub buffer : List ℕ

-- the records of the sections that a file's bytes show: those that Read returns of a file that it accepts
unfoldable pub file_records : ℕ → List ℕ → List Record
unfolding sections_in
file_records base file = records_from 0 (sections_in base file)

-- with a record buffer, after all else 27: record buffer short. Numbers beyond 6 × count stay; a refusal leaves all
abbrev pub fill : List ℕ → List Record → Answer → Reading
fill buffer rs answer =
    elim (eqb answer.number 0) [
      | false ↦ record { answer = answer; buffer = buffer }
      | true ↦ elim (leb (answer.count * record_size) (length buffer)) [
        | false ↦ record { answer = refusal 27 answer.count; buffer = buffer }
        | true ↦ record { answer = answer; buffer = overwrite buffer 0 (numbers_of_all rs) }
      ]
    ]

-- Read
unfoldable pub read : Sizes → ℕ → List ℕ → List ℕ → Reading
unfolding check_file file_records
read sizes base file buffer = fill buffer (file_records base file) (check_file sizes base file)

-- the list that Read returns: the record buffer after it, and the count
abbrev pub list_of : Reading → EventList
list_of reading = record { buffer = reading.buffer; count = reading.answer.count }
