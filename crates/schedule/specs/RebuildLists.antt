-- Previous files and new lists for specs/RebuildExamples.antt, specs/RebuildAnswers.antt and the table of W-208 in
-- crate samples_proved. Where nothing else is said, service, stream and network are 1, 2 and 3, and the base day is
-- 49,273 (0xC079). Assumes nothing.
use Rattle.std.specs.Prelude.{ℕ, ◌+◌, List, [], ◌∷◌, ◌++◌}
use Rattle.sections.specs.Files.{section_with_version, event_at, no_descriptors}
use Rattle.sections.specs.VersionExamples.{empty_section}
use Rattle.schedule.specs.ExampleLists.{event_record, Case, case_of, chained}

-- an event of a second at midnight of the day whose MJD has this second byte: id, day, and what follows the duration
abbrev pub event_on : ℕ → ℕ → List ℕ → List ℕ
event_on id day rest = 0x00 ∷ id ∷ 0xC0 ∷ day ∷ 0x00 ∷ 0x00 ∷ 0x00 ∷ 0x00 ∷ 0x00 ∷ 0x01 ∷ rest

-- an event at the start of each of the tables 0x50, 0x51 and 0x52, the second with a descriptor of one letter, its
-- title
abbrev pub titled : ℕ → Case
titled letter =
    case_of (0x4D ∷ 0x01 ∷ letter ∷ []) []
    (event_record 1 0 0 0 ∷ event_record 2 345_600 0 3 ∷ event_record 3 691_200 0 0 ∷ [])

-- the sections of its tables: last_table_id, three version bytes, the letter
abbrev pub titled_tables : ℕ → ℕ → ℕ → ℕ → ℕ → List ℕ
titled_tables last_table first second third letter =
    section_with_version first 0x50 0 0 0 last_table (event_on 1 0x79 no_descriptors)
    ++ section_with_version second 0x51 0 0 0 last_table (event_on 2 0x7D (0x00 ∷ 0x03 ∷ 0x4D ∷ 0x01 ∷ letter ∷ []))
    ++ section_with_version third 0x52 0 0 0 last_table (event_on 3 0x81 no_descriptors)

-- its file with the letter A: versions 7, 31 and 9; service, stream and network 0x1122, 0x3344 and 0x5566. A line for
-- each header, event and CRC_32
abbrev pub titled_a : List ℕ
titled_a =
    0x50 ∷ 0xF0 ∷ 0x1B ∷ 0x11 ∷ 0x22 ∷ 0xCF ∷ 0x00 ∷ 0x00 ∷ 0x33 ∷ 0x44 ∷ 0x55 ∷ 0x66 ∷ 0x00 ∷ 0x52
    ∷ 0x00 ∷ 0x01 ∷ 0xC0 ∷ 0x79 ∷ 0x00 ∷ 0x00 ∷ 0x00 ∷ 0x00 ∷ 0x00 ∷ 0x01 ∷ 0x00 ∷ 0x00
    ∷ 0x60 ∷ 0xD5 ∷ 0x9B ∷ 0xB8
    ∷ 0x51 ∷ 0xF0 ∷ 0x1E ∷ 0x11 ∷ 0x22 ∷ 0xFF ∷ 0x00 ∷ 0x00 ∷ 0x33 ∷ 0x44 ∷ 0x55 ∷ 0x66 ∷ 0x00 ∷ 0x52
    ∷ 0x00 ∷ 0x02 ∷ 0xC0 ∷ 0x7D ∷ 0x00 ∷ 0x00 ∷ 0x00 ∷ 0x00 ∷ 0x00 ∷ 0x01 ∷ 0x00 ∷ 0x03 ∷ 0x4D ∷ 0x01 ∷ 0x41
    ∷ 0xE5 ∷ 0xEB ∷ 0x79 ∷ 0x09
    ∷ 0x52 ∷ 0xF0 ∷ 0x1B ∷ 0x11 ∷ 0x22 ∷ 0xD3 ∷ 0x00 ∷ 0x00 ∷ 0x33 ∷ 0x44 ∷ 0x55 ∷ 0x66 ∷ 0x00 ∷ 0x52
    ∷ 0x00 ∷ 0x03 ∷ 0xC0 ∷ 0x81 ∷ 0x00 ∷ 0x00 ∷ 0x00 ∷ 0x00 ∷ 0x00 ∷ 0x01 ∷ 0x00 ∷ 0x00
    ∷ 0x14 ∷ 0x66 ∷ 0x37 ∷ 0xA1 ∷ []

-- and with the letter B: versions 7, 0 and 9
abbrev pub titled_b : List ℕ
titled_b =
    0x50 ∷ 0xF0 ∷ 0x1B ∷ 0x11 ∷ 0x22 ∷ 0xCF ∷ 0x00 ∷ 0x00 ∷ 0x33 ∷ 0x44 ∷ 0x55 ∷ 0x66 ∷ 0x00 ∷ 0x52
    ∷ 0x00 ∷ 0x01 ∷ 0xC0 ∷ 0x79 ∷ 0x00 ∷ 0x00 ∷ 0x00 ∷ 0x00 ∷ 0x00 ∷ 0x01 ∷ 0x00 ∷ 0x00
    ∷ 0x60 ∷ 0xD5 ∷ 0x9B ∷ 0xB8
    ∷ 0x51 ∷ 0xF0 ∷ 0x1E ∷ 0x11 ∷ 0x22 ∷ 0xC1 ∷ 0x00 ∷ 0x00 ∷ 0x33 ∷ 0x44 ∷ 0x55 ∷ 0x66 ∷ 0x00 ∷ 0x52
    ∷ 0x00 ∷ 0x02 ∷ 0xC0 ∷ 0x7D ∷ 0x00 ∷ 0x00 ∷ 0x00 ∷ 0x00 ∷ 0x00 ∷ 0x01 ∷ 0x00 ∷ 0x03 ∷ 0x4D ∷ 0x01 ∷ 0x42
    ∷ 0x20 ∷ 0x33 ∷ 0x09 ∷ 0xE8
    ∷ 0x52 ∷ 0xF0 ∷ 0x1B ∷ 0x11 ∷ 0x22 ∷ 0xD3 ∷ 0x00 ∷ 0x00 ∷ 0x33 ∷ 0x44 ∷ 0x55 ∷ 0x66 ∷ 0x00 ∷ 0x52
    ∷ 0x00 ∷ 0x03 ∷ 0xC0 ∷ 0x81 ∷ 0x00 ∷ 0x00 ∷ 0x00 ∷ 0x00 ∷ 0x00 ∷ 0x01 ∷ 0x00 ∷ 0x00
    ∷ 0x14 ∷ 0x66 ∷ 0x37 ∷ 0xA1 ∷ []

-- and an event in table 0x54
abbrev pub with_later : Case
with_later =
    case_of (0x4D ∷ 0x01 ∷ 0x41 ∷ []) []
    (event_record 1 0 0 0 ∷ event_record 2 345_600 0 3 ∷ event_record 3 691_200 0 0 ∷ event_record 4 1_382_400 0 0 ∷ [])

-- the sections of its last two tables: two version bytes
abbrev pub later_tables : ℕ → ℕ → List ℕ
later_tables fourth fifth =
    empty_section fourth 0x53 0 0 0x54 ++ section_with_version fifth 0x54 0 0 0 0x54 (event_on 4 0x89 no_descriptors)

-- three events in segment 0 of table 0x50, and one in table 0x51
abbrev pub night : Case
night = chained [] (0 ∷ 3_600 ∷ 10_740 ∷ 345_600 ∷ [])

-- a rival's file of it, which cuts the segment early, and Build's: two version bytes
abbrev pub night_rival : ℕ → ℕ → List ℕ
night_rival first second =
    section_with_version first 0x50 0 1 1 0x51 (event_at 1 0x00 0x00)
    ++ section_with_version first 0x50 1 1 1 0x51 (event_at 2 0x01 0x00 ++ event_at 3 0x02 0x59)
    ++ section_with_version second 0x51 0 0 0 0x51 (event_on 4 0x7D no_descriptors)

abbrev pub night_file : ℕ → ℕ → List ℕ
night_file first second =
    section_with_version first 0x50 0 0 0 0x51 (event_at 1 0x00 0x00 ++ event_at 2 0x01 0x00 ++ event_at 3 0x02 0x59)
    ++ section_with_version second 0x51 0 0 0 0x51 (event_on 4 0x7D no_descriptors)

-- an event at the start of table 0x50 and one of table 0x52, none in table 0x51; and their file: the second byte of the
-- first event's MJD, three version bytes
abbrev pub apart : Case
apart = case_of [] [] (event_record 1 0 0 0 ∷ event_record 3 691_200 0 0 ∷ [])

abbrev pub apart_file : ℕ → ℕ → ℕ → ℕ → List ℕ
apart_file day first second third =
    section_with_version first 0x50 0 0 0 0x52 (event_on 1 day no_descriptors)
    ++ empty_section second 0x51 0 0 0x52
    ++ section_with_version third 0x52 0 0 0 0x52 (event_on 3 (day + 8) no_descriptors)

-- an event in each of the first two segments of table 0x50, the second with a title of one letter; and their file: the
-- version byte of both sections, the letter
abbrev pub two_segments : ℕ → Case
two_segments letter = case_of (0x4D ∷ 0x01 ∷ letter ∷ []) [] (event_record 1 0 0 0 ∷ event_record 2 10_800 0 3 ∷ [])

abbrev pub two_segments_file : ℕ → ℕ → List ℕ
two_segments_file version letter =
    section_with_version version 0x50 0 8 0 0x50 (event_at 1 0x00 0x00)
    ++ section_with_version version 0x50 8 8 8 0x50
    (0x00 ∷ 0x02 ∷ 0xC0 ∷ 0x79 ∷ 0x03 ∷ 0x00 ∷ 0x00 ∷ 0x00 ∷ 0x00 ∷ 0x01 ∷ 0x00 ∷ 0x03 ∷ 0x4D ∷ 0x01 ∷ letter ∷ [])
