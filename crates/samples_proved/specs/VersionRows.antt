-- Rebuild at the callers' sizes (02, W-208), beside the short sections of crate schedule: one title of sixteen tables,
-- previous files of other packings and by other base days, and such as Read refuses. The value is in
-- proofs/VersionRows.antt. Assumes nothing.
use Rattle.std.specs.Prelude.{ℕ, ◌≡◌, List, [], ◌∷◌, ◌++◌, map, take, replicate}
use Rattle.eit.specs.Sizes.{broadcast, cable}
use Rattle.eit.specs.declared.Sizes.{Sizes}
use Rattle.eit.specs.Fields.{field}
use Rattle.sections.specs.Decode.{split_file}
use Rattle.sections.specs.Files.{section_with_version, section, event_at, with_event, start_at_one, one_hour, no_descriptors}
use Rattle.sections.specs.Files.{rival, six_hours, empty_tables, full}
use Rattle.sections.specs.VersionExamples.{empty_section, two_tables, comes_back}
use Rattle.schedule.specs.Build.{Built, file_of}
use Rattle.schedule.specs.ExampleLists.{event_record, Case, case_of, chained, plain_events}
use Rattle.schedule.specs.ExampleCalls.{rebuild_with}
use Rattle.schedule.specs.RebuildLists.{event_on, titled, titled_tables, titled_a, titled_b, apart, apart_file}
use Rattle.schedule.specs.RebuildExamples.{wrote}
use Rattle.schedule.specs.RebuildAnswers.{previous_read, previous_refused}
use Rattle.samples_proved.specs.Cable.{with_chain}

-- Rebuild under the same base day
abbrev pub rebuild_of : Sizes → List ℕ → Case → List ℕ → Built
rebuild_of sizes previous c output = rebuild_with sizes previous 49_273 c 49_273 output

-- the version bytes of the sections that Rebuild writes for broadcast
abbrev pub version_bytes : List ℕ → Case → List ℕ → List ℕ
version_bytes previous c output = map (field 5 1) (split_file (file_of (rebuild_of broadcast previous c output)))

-- an event with a title of one letter in table 0x51, and one without in table 0x5F; and their file, 315 bytes, under
-- versions 0, 30, 2, and so on to 15
abbrev pub sixteen : ℕ → Case
sixteen letter =
    case_of (0x4D ∷ 0x01 ∷ letter ∷ []) [] (event_record 1 345_600 0 3 ∷ event_record 2 5_184_000 0 0 ∷ [])

abbrev pub sixteen_file : ℕ → List ℕ
sixteen_file letter =
    empty_section 0xC1 0x50 0 0 0x5F
    ++ section_with_version 0xFD 0x51 0 0 0 0x5F (event_on 1 0x7D (0x00 ∷ 0x03 ∷ 0x4D ∷ 0x01 ∷ letter ∷ []))
    ++ empty_tables 0x52
    (0xC5 ∷ 0xC7 ∷ 0xC9 ∷ 0xCB ∷ 0xCD ∷ 0xCF ∷ 0xD1 ∷ 0xD3 ∷ 0xD5 ∷ 0xD7 ∷ 0xD9 ∷ 0xDB ∷ 0xDD ∷ [])
    ++ section_with_version 0xDF 0x5F 0 0 0 0x5F (event_on 2 0xB5 no_descriptors)

-- the events of `full`, which has version 31 in all tables
abbrev pub full_list : Case
full_list =
    case_of [] []
    (event_record 1 0 0 0 ∷ event_record 2 600 0 0 ∷ event_record 3 1_200 0 0 ∷ event_record 4 1_800 0 0
    ∷ event_record 5 2_400 0 0 ∷ event_record 6 3_000 0 0 ∷ event_record 7 3_600 0 0 ∷ event_record 8 10_740 0 0
    ∷ record { id = 9; start = 5_184_000; duration = 359_999; marks = 0; offset = 0; chain_length = 0 } ∷ [])

-- an event at midnight four days after base day 49,273, which is in segment 0 of table 0x51: two version bytes. By the
-- base day before it is in segment 8
abbrev pub own_day : ℕ → ℕ → List ℕ
own_day first second =
    empty_section first 0x50 0 0 0x51 ++ section_with_version second 0x51 0 0 0 0x51 (event_on 1 0x7D no_descriptors)

abbrev pub day_before : ℕ → ℕ → List ℕ
day_before first second =
    empty_section first 0x50 0 0 0x51
    ++ empty_section second 0x51 0 64 0x51 ++ empty_section second 0x51 8 64 0x51
    ++ empty_section second 0x51 16 64 0x51 ++ empty_section second 0x51 24 64 0x51
    ++ empty_section second 0x51 32 64 0x51 ++ empty_section second 0x51 40 64 0x51
    ++ empty_section second 0x51 48 64 0x51 ++ empty_section second 0x51 56 64 0x51
    ++ section_with_version second 0x51 64 64 64 0x51 (event_on 1 0x7D no_descriptors)

pub record VersionRows : Type 0 where
  -- "Receivers reload sixteen tables when one title changes": the title stays, and another letter
  pub title_kept :
      rebuild_of broadcast (sixteen_file 0x41) (sixteen 0x41) (replicate 315 0xAA) ≡ wrote 315 (sixteen_file 0x41)
  pub title_changed :
      version_bytes (sixteen_file 0x41) (sixteen 0x42) (replicate 315 0xAA)
      ≡ 0xC1 ∷ 0xFF
      ∷ 0xC5 ∷ 0xC7 ∷ 0xC9 ∷ 0xCB ∷ 0xCD ∷ 0xCF ∷ 0xD1 ∷ 0xD3 ∷ 0xD5 ∷ 0xD7 ∷ 0xD9 ∷ 0xDB ∷ 0xDD ∷ 0xDF ∷ []
  -- the same for both callers
  pub both_callers : (rebuild_of broadcast titled_a (titled 0x42) (replicate 93 0xAA) ≡ wrote 93 titled_b)
      × (rebuild_of cable titled_a (titled 0x42) (replicate 93 0xAA) ≡ wrote 93 titled_b)
  -- a file of another packing: eight sections of one event each are now one; 31 rises to 0
  pub rival_cuts : version_bytes full full_list (replicate 396 0xAA) ≡ 0xC1 ∷ replicate 15 0xFF
  -- one with a section, an empty segment and an empty table more
  pub rival_longer :
      rebuild_of broadcast rival (chained [] (0 ∷ 3_600 ∷ 10_740 ∷ [])) (replicate 54 0xAA)
      ≡ wrote 54
      (section_with_version 0xC3 0x50 0 0 0 0x50 (event_at 1 0x00 0x00 ++ event_at 2 0x01 0x00 ++ event_at 3 0x02 0x59))
  -- a table between others loses its last event
  pub between_gone :
      rebuild_of broadcast (titled_tables 0x52 0xCB 0xC7 0xCF 0x41) apart (replicate 78 0xAA)
      ≡ wrote 78 (apart_file 0x79 0xCB 0xC9 0xCF)
  -- the same instants by another base day: in another segment, and in another table; and no events
  pub other_segment :
      rebuild_with broadcast (day_before 0xCB 0xC7) 49_272 (plain_events 345_600 1) 49_273 (replicate 48 0xAA)
      ≡ wrote 48 (own_day 0xCB 0xC9)
  pub other_table :
      rebuild_with broadcast (own_day 0xCB 0xC7) 49_273 (plain_events 0 1) 49_277 (replicate 30 0xAA)
      ≡ wrote 30 (section_with_version 0xCD 0x50 0 0 0 0x50 (event_on 1 0x7D no_descriptors))
  pub no_events :
      rebuild_with broadcast (empty_section 0xCB 0x50 0 0 0x50) 65_472 (plain_events 0 0) 0 (replicate 18 0xAA)
      ≡ wrote 18 (empty_section 0xCB 0x50 0 0 0x50)
  -- "The previous file is read first": 20 to 26, each at its section's offset, and 25 with the file's length
  pub previous_cut : previous_read broadcast (section 0x50 0 0 0 0x50 [] ++ (0x50 ∷ [])) ≡ previous_refused 20 18
  pub previous_crc : previous_read broadcast (take 59 two_tables ++ (0x00 ∷ [])) ≡ previous_refused 21 30
  pub previous_numbering : previous_read broadcast (comes_back 0x50 0xC3) ≡ previous_refused 23 54
  pub previous_overlap : previous_read broadcast (six_hours 0x01) ≡ previous_refused 24 48
  pub previous_tag :
      previous_read broadcast (with_event start_at_one one_hour (0x00 ∷ 0x02 ∷ 0xFF ∷ 0x00 ∷ [])) ≡ previous_refused 24 0
  pub previous_other_day :
      rebuild_with broadcast two_tables 49_272 (plain_events 0 0) 49_273 (replicate 18 0xAA)
      ≡ record { number = 24; value = 0; output = replicate 18 0xAA }
  pub previous_empty : previous_read broadcast [] ≡ previous_refused 25 0
  pub previous_limit :
      previous_read (record { section_limit = 4_096; event_limit = 1 }) two_tables ≡ previous_refused 26 30
  -- a section of broadcast's that is too long for cable
  pub previous_1025 : previous_read cable (with_chain 995 0xE50F_4829) ≡ previous_refused 20 18
