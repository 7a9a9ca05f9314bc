-- Short files in raw bytes, for specs/Examples.antt and for the tables of crates samples_refusals and samples_proved;
-- what is asked of them is in specs/FileAnswers.antt.
-- Where nothing else is said, service, stream and network are 1, 2 and 3, the version is 0, and the base day is 49,273
-- (0xC079). Assumes nothing.
use Rattle.std.specs.Prelude.{ℕ, suc, ◌+◌, List, [], ◌∷◌, ◌++◌, length, replicate}
use Rattle.eit.specs.Fields.{big_endian}
use Rattle.eit.specs.Crc.{crc32}

-- some bytes with their CRC_32 behind them
abbrev pub with_crc : List ℕ → List ℕ
with_crc bs = bs ++ big_endian 4 (crc32 bs)

-- a section before its CRC_32: version byte, table_id, section_number, last_section_number,
-- segment_last_section_number, last_table_id, events
abbrev pub covered : ℕ → ℕ → ℕ → ℕ → ℕ → ℕ → List ℕ → List ℕ
covered version table number last segment_last last_table events =
    (table ∷ [])
    ++ big_endian 2 (0xF000 + 15 + length events)
    ++ (0x00 ∷ 0x01 ∷ version ∷ number ∷ last ∷ 0x00 ∷ 0x02 ∷ 0x00 ∷ 0x03 ∷ segment_last ∷ last_table ∷ [])
    ++ events

abbrev pub section_with_version : ℕ → ℕ → ℕ → ℕ → ℕ → ℕ → List ℕ → List ℕ
section_with_version version table number last segment_last last_table events =
    with_crc (covered version table number last segment_last last_table events)

abbrev pub section : ℕ → ℕ → ℕ → ℕ → ℕ → List ℕ → List ℕ
section table number last segment_last last_table events =
    section_with_version 0xC1 table number last segment_last last_table events

-- no events, with the bytes 1 and 5 given: the first of section_length's field, and the version's
abbrev pub with_bits : ℕ → ℕ → List ℕ
with_bits first version =
    with_crc (0x50 ∷ first ∷ 0x0F ∷ 0x00 ∷ 0x01 ∷ version ∷ 0x00 ∷ 0x00 ∷ 0x00 ∷ 0x02 ∷ 0x00 ∷ 0x03 ∷ 0x00 ∷ 0x50 ∷ [])

-- two empty segments, the second with its identity given: service, version byte, stream, network
abbrev pub with_identity : ℕ → ℕ → ℕ → ℕ → List ℕ
with_identity service version stream network =
    section 0x50 0 8 0 0x50 []
    ++ with_crc
    (0x50 ∷ 0xF0 ∷ 0x0F ∷ 0x00 ∷ service ∷ version ∷ 0x08 ∷ 0x08 ∷ 0x00 ∷ stream ∷ 0x00 ∷ network ∷ 0x08 ∷ 0x50 ∷ [])

-- an event of a second without descriptors: id, the hour and the minute of its start as two digits each
abbrev pub event_at : ℕ → ℕ → ℕ → List ℕ
event_at id hour minute = 0x00 ∷ id ∷ 0xC0 ∷ 0x79 ∷ hour ∷ minute ∷ 0x00 ∷ 0x00 ∷ 0x00 ∷ 0x01 ∷ 0x00 ∷ 0x00 ∷ []

-- event 1 from 00:00:00 on, without descriptors: the hours and the seconds of its duration as two digits each
abbrev pub first_for : ℕ → ℕ → List ℕ
first_for hours seconds =
    0x00 ∷ 0x01 ∷ 0xC0 ∷ 0x79 ∷ 0x00 ∷ 0x00 ∷ 0x00 ∷ hours ∷ 0x00 ∷ seconds ∷ 0x00 ∷ 0x00 ∷ []

-- one event, with all behind its id given: MJD and hhmmss, duration, then running_status, free_CA, chain length and
-- chain
abbrev pub with_event : List ℕ → List ℕ → List ℕ → List ℕ
with_event start duration rest = section 0x50 0 0 0 0x50 (0x00 ∷ 0x01 ∷ [] ++ start ++ duration ++ rest)

-- 01:00:00 of the base day, one hour, and no descriptors
abbrev pub start_at_one : List ℕ
start_at_one = 0xC0 ∷ 0x79 ∷ 0x01 ∷ 0x00 ∷ 0x00 ∷ []

abbrev pub one_hour : List ℕ
one_hour = 0x01 ∷ 0x00 ∷ 0x00 ∷ []

abbrev pub no_descriptors : List ℕ
no_descriptors = 0x00 ∷ 0x00 ∷ []

-- the file of document 01's sample of `plan`: an event of 01:45:30 at 12:45, and four empty segments before it; 102
-- bytes
abbrev pub plan_sample_file : List ℕ
plan_sample_file =
    section 0x50 0 32 0 0x50 []
    ++ section 0x50 8 32 8 0x50 []
    ++ section 0x50 16 32 16 0x50 []
    ++ section 0x50 24 32 24 0x50 []
    ++ section 0x50 32 32 32 0x50
    (0x00 ∷ 0x01 ∷ 0xC0 ∷ 0x79 ∷ 0x12 ∷ 0x45 ∷ 0x00 ∷ 0x01 ∷ 0x45 ∷ 0x30 ∷ 0x00 ∷ 0x00 ∷ [])

-- a rival's: cut early, an empty segment behind the last event, and a later last_table_id
abbrev pub rival : List ℕ
rival =
    section 0x50 0 8 1 0x51 (event_at 1 0x00 0x00)
    ++ section 0x50 1 8 1 0x51 (event_at 2 0x01 0x00 ++ event_at 3 0x02 0x59)
    ++ section 0x50 8 8 8 0x51 []
    ++ section 0x51 0 0 0 0x51 []

-- event 1 for three hours and some seconds, two digits, and event 2 at three o'clock, in the next segment: 60 bytes
abbrev pub three_hours : ℕ → List ℕ
three_hours seconds =
    section 0x50 0 8 0 0x50 (first_for 0x03 seconds) ++ section 0x50 8 8 8 0x50 (event_at 2 0x03 0x00)

-- event 1 for six hours and some seconds, two digits, an empty segment, and event 2 at six o'clock: 78 bytes
abbrev pub six_hours : ℕ → List ℕ
six_hours seconds =
    section 0x50 0 16 0 0x50 (first_for 0x06 seconds)
    ++ section 0x50 8 16 8 0x50 []
    ++ section 0x50 16 16 16 0x50 (event_at 2 0x06 0x00)

-- empty tables from `table` on, with these version bytes and last_table_id 0x5F
abbrev pub empty_tables : ℕ → List ℕ → List ℕ
empty_tables table [] = []
empty_tables table (version ∷ versions) =
    section_with_version version table 0 0 0 0x5F [] ++ empty_tables (suc table) versions

-- a segment of eight sections, and all sixteen tables; the last has an event of 99:59:59 at its start, sixty days after
-- the base day, which ends past the last segment
abbrev pub full : List ℕ
full =
    section_with_version 0xFF 0x50 0 7 7 0x5F (event_at 1 0x00 0x00)
    ++ section_with_version 0xFF 0x50 1 7 7 0x5F (event_at 2 0x00 0x10)
    ++ section_with_version 0xFF 0x50 2 7 7 0x5F (event_at 3 0x00 0x20)
    ++ section_with_version 0xFF 0x50 3 7 7 0x5F (event_at 4 0x00 0x30)
    ++ section_with_version 0xFF 0x50 4 7 7 0x5F (event_at 5 0x00 0x40)
    ++ section_with_version 0xFF 0x50 5 7 7 0x5F (event_at 6 0x00 0x50)
    ++ section_with_version 0xFF 0x50 6 7 7 0x5F (event_at 7 0x01 0x00)
    ++ section_with_version 0xFF 0x50 7 7 7 0x5F (event_at 8 0x02 0x59)
    ++ empty_tables 0x51 (replicate 14 0xFF)
    ++ section_with_version 0xFF 0x5F 0 0 0 0x5F
    (0x00 ∷ 0x09 ∷ 0xC0 ∷ 0xB5 ∷ 0x00 ∷ 0x00 ∷ 0x00 ∷ 0x99 ∷ 0x59 ∷ 0x59 ∷ 0x00 ∷ 0x00 ∷ [])
