-- What "Read is exact" speaks of (demand 2: "Read accepts exactly the files that follow their rules, packing aside, and
-- returns the identity and events that the file's bytes carry"). The theorems are `read_exact` of proofs/Exact.antt and
-- `accepted_exactly` of proofs/Accepted.antt. Assumes nothing.
use Rattle.std.specs.Prelude.{◌≡◌, ℕ, ◌≤◌, List, length}
use Rattle.eit.specs.declared.Sizes.{Sizes}
use Rattle.eit.specs.Overwrite.{overwrite}
use Rattle.eit.specs.Records.{numbers_of_all}
use Rattle.eit.specs.declared.Identity.{Identity}
use Rattle.eit.specs.declared.Record.{Record}
use Rattle.sections.specs.Every.{Every}
use Rattle.sections.specs.Segment.{table_first}
use Rattle.sections.specs.Section.{version_of, Section}
use Rattle.sections.specs.Encode.{file_bytes}
use Rattle.sections.specs.Rules.{Rules}
use Rattle.sections.specs.Offsets.{records_from}
use Rattle.sections.specs.Read.{Reading, success, read}

-- "Read, with 12,288 numbers for records": a number of its own, the same under every sizes
abbrev pub accepted_numbers : ℕ
accepted_numbers = 12_288

-- so many numbers, whatever they are
abbrev pub RecordBuffer : List ℕ → Type 0
RecordBuffer buffer = length buffer ≡ accepted_numbers

-- 01's term: accepted. "A file is accepted under a legal base day if Read, with 12,288 numbers for records, succeeds on
-- it"
abbrev pub Accepted : Sizes → ℕ → List ℕ → Type 0
Accepted sizes base file = (buffer : List ℕ) → RecordBuffer buffer → (read sizes base file buffer).answer.number ≡ 0

-- 02, W-208: "Read gives 0 for absent tables": those of which some sections have none
abbrev pub ZeroWhereAbsent : Identity → List Section → Type 0
ZeroWhereAbsent identity ss =
    (table : ℕ) → table_first ≤ table → Every (λ (s : Section). s.header.table_id ≡ table → ⊥) ss
    → version_of identity table ≡ 0

-- 02, W-208: "versions of present tables only": two identities with the same triplet and the same versions of the
-- tables up to last_table_id
pub record SameUpTo (last_table_id : ℕ) (i j : Identity) : Type 0 where
  pub triplet : i.triplet ≡ j.triplet
  pub versions : (table : ℕ) → table_first ≤ table → table ≤ last_table_id → version_of i table ≡ version_of j table

-- the file is the joined bytes of some sections that keep the rules, the identity is theirs, with version 0 for absent
-- tables, and the records are their events at their offsets in it
pub record FollowsRules (sizes : Sizes) (base : ℕ) (file : List ℕ) (identity : Identity) (rs : List Record) : Type
    0 where
  pub sections : List Section
  pub rules : Rules sizes identity sections
  pub absent : ZeroWhereAbsent identity sections
  pub bytes : file_bytes base sections ≡ file
  pub records : records_from 0 sections ≡ rs

-- Read succeeds with an identity and some records, which it writes over the front of the record buffer
abbrev pub reading_of : List ℕ → Identity → List Record → Reading
reading_of buffer identity rs =
    record { answer = success identity (length rs); buffer = overwrite buffer 0 (numbers_of_all rs) }
