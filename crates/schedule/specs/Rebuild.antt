-- Rebuild as one total function of the previous file, a new list with its pools, their base days and the output (02,
-- W-208): Build under the previous service, stream and network, with a version for each table that tells whether the
-- table has changed. Laws: proofs/Rebuild.antt. Assumes nothing.
use Rattle.std.specs.Prelude.{ℕ, ◌+◌, ◌-◌, ◌%◌, true, false, eqb, length, take}
use mathlib.Core.List.{List, [], ◌∷◌, ◌++◌, map, flatten}
use Rattle.eit.specs.declared.Sizes.{Sizes}
use Rattle.eit.specs.Identity.{tables}
use Rattle.eit.specs.SameList.{same_list}
use Rattle.eit.specs.Fields.{bytes_at, field}
use Rattle.eit.specs.Pools.{Pools}
use Rattle.eit.specs.Records.{EventList}
use Rattle.eit.specs.Sound.{events_of}
use Rattle.eit.specs.declared.Identity.{Identity}
use Rattle.sections.specs.Each.{each}
use Rattle.sections.specs.Segment.{table_first}
use Rattle.sections.specs.Section.{version_of}
use Rattle.sections.specs.Encode.{file_bytes}
use Rattle.sections.specs.Decode.{split_file}
use Rattle.sections.specs.Read.{check_file}
use Rattle.schedule.specs.SectionsOf.{sections_of}
use Rattle.schedule.specs.Build.{Built, refusal, build}

-- the sections, as bytes, that have this table_id
abbrev pub of_table : ℕ → List (List ℕ) → List (List ℕ)
of_table table [] = []
of_table table (bs ∷ rest) =
    elim (eqb (field 0 1 bs) table) [ true ↦ bs ∷ of_table table rest | false ↦ of_table table rest ]

-- the sections of a table in a file
unfoldable pub table_sections : ℕ → List ℕ → List (List ℕ)
unfolding split_file
table_sections table file = of_table table (split_file file)

-- a section's bytes, "version and CRC aside": without byte 5, which has the version between fixed bits, and the last
-- four
abbrev pub unversioned : List ℕ → List ℕ
unversioned bs = take 5 bs ++ bytes_at 6 (length bs - 10) bs

-- and those of a table's sections, joined; each section states its length, so these tell the sections
unfoldable pub table_bytes : ℕ → List ℕ → List ℕ
unfolding flatten table_sections
table_bytes table file = flatten (map unversioned (table_sections table file))

-- "A table whose bytes, version and CRC aside, are equal keeps its version; another takes the old one plus 1 modulo 32;
-- a table not there before takes 0": of the previous file with its identity, and a new file
unfoldable pub next_version : Identity → List ℕ → List ℕ → ℕ → ℕ
unfolding table_sections table_bytes
next_version identity previous file table =
    elim (table_sections table previous) [
      | [] ↦ 0
      | bs ∷ rest ↦ elim (same_list (table_bytes table previous) (table_bytes table file)) [
        | true ↦ version_of identity table
        | false ↦ (version_of identity table + 1) % 32
      ]
    ]

-- "builds under the previous service, stream and network"
unfoldable pub next_identity : Identity → List ℕ → List ℕ → Identity
unfolding each next_version
next_identity identity previous file =
    record {
      triplet = identity.triplet;
      versions = each (next_version identity previous file) table_first tables;
    }

-- Rebuild. "The previous file is read first, and its refusal number and offset are returned if Read refuses it; output
-- is then untouched. Build's refusals follow." The new file is compared as Build would write it under the previous
-- identity: its versions are not among the bytes compared (`table_bytes_under`)
unfoldable pub rebuild : Sizes → List ℕ → ℕ → Pools → EventList → ℕ → List ℕ → Built
unfolding next_identity
rebuild sizes previous previousBase pools list base output =
    let answer = check_file sizes previousBase previous in
    elim (eqb answer.number 0) [
      | false ↦ refusal answer.number answer.value output
      | true ↦
          let file = file_bytes base (sections_of sizes answer.identity (events_of pools list)) in
          build sizes pools list base (next_identity answer.identity previous file) output
    ]
