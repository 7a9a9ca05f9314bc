-- Rebuild computed in short sections (02, W-208): which tables keep their versions, which take the next one and which
-- 0. Some more are in crate samples_proved. The value is in proofs/RebuildExamples.antt. Assumes nothing.
use Rattle.std.specs.Prelude.{ℕ, ◌≡◌, List, [], ◌∷◌, ◌++◌, replicate}
use Rattle.schedule.specs.Build.{Built}
use Rattle.schedule.specs.ExampleLists.{Case}
use Rattle.schedule.specs.ExampleCalls.{rebuild_with}
use Rattle.schedule.specs.Examples.{sections_of_at_most}
use Rattle.schedule.specs.RebuildLists.{titled, titled_tables, titled_a, titled_b, with_later, later_tables}
use Rattle.schedule.specs.RebuildLists.{night, night_rival, night_file, apart, apart_file}
use Rattle.schedule.specs.RebuildLists.{two_segments, two_segments_file}

-- Rebuild under the same base day, in sections of at most 54 bytes
abbrev pub rebuilt : List ℕ → Case → List ℕ → Built
rebuilt previous c output = rebuild_with (sections_of_at_most 54) previous 49_273 c 49_273 output

-- success: the file's length, and the output after it
abbrev pub wrote : ℕ → List ℕ → Built
wrote size output = record { number = 0; value = size; output = output }

pub record RebuildExamples : Type 0 where
  -- "A table whose bytes, version and CRC aside, are equal keeps its version": the same list gives the same bytes, and
  -- the byte beyond the file stays
  pub same_list_holds : rebuilt titled_a (titled 0x41) (replicate 94 0xAA) ≡ wrote 93 (titled_a ++ (0xAA ∷ []))
  -- "another takes the old one plus 1 modulo 32": one title changes, and 31 rises to 0; "builds under the previous
  -- service, stream and network"
  pub title_changed : rebuilt titled_a (titled 0x42) (replicate 94 0xAA) ≡ wrote 93 (titled_b ++ (0xAA ∷ []))
  -- "a table not there before takes 0": with an event in table 0x54 the tables 0x53 and 0x54 are new, and all others
  -- have another last_table_id
  pub later_table :
      rebuilt (titled_tables 0x52 0xCB 0xC1 0xFF 0x41) with_later (replicate 141 0xAA)
      ≡ wrote 141 (titled_tables 0x54 0xCD 0xC3 0xC1 0x41 ++ later_tables 0xC1 0xC1)
  -- without it again all tables that are left rise; a table between others gets its first event
  pub later_gone :
      rebuilt (titled_tables 0x54 0xCB 0xC1 0xFF 0x41 ++ later_tables 0xE1 0xE3) (titled 0x41) (replicate 93 0xAA)
      ≡ wrote 93 (titled_tables 0x52 0xCD 0xC3 0xC1 0x41)
  pub between_first :
      rebuilt (apart_file 0x79 0xCB 0xC7 0xCF) (titled 0x41) (replicate 93 0xAA)
      ≡ wrote 93 (titled_tables 0x52 0xCB 0xC9 0xCF 0x41)
  -- a title in the table's second section, whose first is the same: both rise
  pub later_section :
      rebuilt (two_segments_file 0xCB 0x41) (two_segments 0x42) (replicate 63 0xAA) ≡ wrote 63 (two_segments_file 0xCD 0x42)
  -- a previous file of another packing: the table with other cuts rises
  pub rival_cuts : rebuilt (night_rival 0xC9 0xD1) night (replicate 84 0xAA) ≡ wrote 84 (night_file 0xCB 0xD1)
  -- "each with its base day": the same starts a day later, where the table without events keeps its version
  pub day_later :
      rebuild_with (sections_of_at_most 54) (apart_file 0x79 0xCB 0xC7 0xCF) 49_273 apart 49_274 (replicate 78 0xAA)
      ≡ wrote 78 (apart_file 0x7A 0xCD 0xC7 0xD1)
