-- The numbers of W-206 (02, "A cable head-end with short sections"), computed at cable's sizes. Events last a second,
-- and none overlaps the next. The value is in proofs/Cable.antt. Assumes nothing.
use Rattle.std.specs.Prelude.{ℕ, zero, suc, ◌+◌, ◌*◌, ◌/◌, ◌%◌, ◌≡◌, List, [], ◌∷◌, ◌++◌, replicate}
use Rattle.eit.specs.Sizes.{broadcast, cable}
use Rattle.eit.specs.Fields.{big_endian}
use Rattle.eit.specs.Time.{to_bcd}
use Rattle.eit.specs.Records.{EventList}
use Rattle.packing.specs.Greedy.{joined}
use Rattle.script.specs.Edit.{Edited, edit}
use Rattle.sections.specs.Read.{check_file}
use Rattle.sections.specs.Files.{covered}
use Rattle.sections.specs.FileAnswers.{accepted_with, refused_with}
use Rattle.schedule.specs.Build.{Built}
use Rattle.schedule.specs.ExampleLists.{Case, chained, plain_events}
use Rattle.schedule.specs.ExampleCalls.{padded, build_with, plan_with}
use Rattle.samples_proved.specs.SampleLists.{chain_of}
use Rattle.samples_proved.specs.SampleCalls.{cuts_with}

-- an event with a chain of n bytes
abbrev pub described : ℕ → Case
described n = chained (chain_of n) (0 ∷ [])

-- Build's answer if the output is empty
abbrev pub answer : Case → Built
answer c = build_with cable c 49_273 0 []

-- n events without descriptors, with room for one more; and Edit of them
abbrev pub listed : ℕ → EventList
listed n = record { buffer = (plain_events 0 n).list.buffer ++ replicate 6 7; count = n }

abbrev pub edit_of : ℕ → List ℕ → Edited
edit_of n script = edit cable (record { day = []; series = [] }) (listed n) script

-- PUT of an event of a second, without descriptors, id and start 1,000
abbrev pub put_one : List ℕ
put_one = 0x01 ∷ 0x03 ∷ 0xE8 ∷ 0 ∷ 0 ∷ 0x03 ∷ 0xE8 ∷ 0 ∷ 0 ∷ 0 ∷ 1 ∷ 0 ∷ 0 ∷ 0 ∷ 0 ∷ 0 ∷ 0 ∷ 0 ∷ []

-- a section of table 0x50 with its CRC_32 in raw numbers: section_number, last_section_number, events. It is alone in
-- its segment
abbrev pub section_with : ℕ → ℕ → List ℕ → ℕ → List ℕ
section_with number last events crc = covered 0xC1 0x50 number last number 0x50 events ++ big_endian 4 crc

-- an event of a second at 03:00:00 with a chain of n bytes: an empty segment, then a section of 30 + n bytes
abbrev pub with_chain : ℕ → ℕ → List ℕ
with_chain n crc =
    section_with 0 8 [] 0x0B97_2016
    ++ section_with 8 8
    (0x00 ∷ 0x01 ∷ 0xC0 ∷ 0x79 ∷ 0x03 ∷ 0x00 ∷ 0x00 ∷ 0x00 ∷ 0x00 ∷ 0x01 ∷ [] ++ big_endian 2 n ++ chain_of n) crc

-- n events of a second from id `suc i` on, each three minutes after the one before: 60 in a segment
abbrev pub events_from : ℕ → ℕ → List ℕ
events_from i zero = []
events_from i (suc n) =
    big_endian 2 (suc i)
    ++ (0xC0 ∷ 0x79 ∷ to_bcd (i / 20) ∷ to_bcd (i % 20 * 3) ∷ 0x00 ∷ 0x00 ∷ 0x00 ∷ 0x01 ∷ 0x00 ∷ 0x00 ∷ [])
    ++ events_from (suc i) n

-- four sections of 738 bytes with 60 events each, and a fifth with n more; and their file
abbrev pub four : List (List ℕ)
four =
    section_with 0 32 (events_from 0 60) 0x5078_33C2
    ∷ section_with 8 32 (events_from 60 60) 0xB796_A4D9
    ∷ section_with 16 32 (events_from 120 60) 0xD1D1_170D
    ∷ section_with 24 32 (events_from 180 60) 0xCB6A_E171
    ∷ []

abbrev pub fifth : ℕ → ℕ → List ℕ
fifth n crc = section_with 32 32 (events_from 240 n) crc

abbrev pub with_events : ℕ → ℕ → List ℕ
with_events n crc = joined (four ++ (fifth n crc ∷ []))

pub record Cable : Type 0 where
  -- "sections of at most 1,024 bytes in all": "an event with 995 chain bytes is unpackable, 994 is not"
  pub chain_994 : cuts_with cable (described 994) ≡ (0x50, 0, 1) ∷ []
  pub chain_994_plan : plan_with cable (described 994) ≡ padded ((1 ∷ []) ∷ [])
  pub chain_994_build : answer (described 994) ≡ record { number = 11; value = 1_024; output = [] }
  pub chain_995_plan : plan_with cable (described 995) ≡ padded ((255 ∷ []) ∷ [])
  pub chain_995_build : answer (described 995) ≡ record { number = 10; value = 0; output = [] }
  pub chain_995_broadcast :
      build_with broadcast (described 995) 49_273 0 [] ≡ record { number = 11; value = 1_025; output = [] }
  -- "so 1,006 for events": 83 without descriptors have 996 bytes, 84 have 1,008
  pub events_83 : cuts_with cable (plain_events 0 83) ≡ (0x50, 0, 83) ∷ []
  pub events_84 : cuts_with cable (plain_events 0 84) ≡ (0x50, 0, 83) ∷ (0x50, 1, 1) ∷ []
  -- "at most 256 events": "8, 12 and 26 use 256"
  pub put_256 :
      edit_of 255 put_one
      ≡ record {
        number = 0;
        value = 256;
        list = record { buffer = (plain_events 0 255).list.buffer ++ (1_000 ∷ 1_000 ∷ 1 ∷ 0 ∷ 0 ∷ 0 ∷ []); count = 256 };
      }
  pub put_257 : edit_of 256 put_one ≡ record { number = 8; value = 0; list = listed 256 }
  pub list_257_edit : edit_of 257 [] ≡ record { number = 12; value = 0; list = listed 257 }
  pub list_257_build : answer (plain_events 0 257) ≡ record { number = 12; value = 0; output = [] }
  pub list_257_plan : plan_with cable (plain_events 0 257) ≡ replicate 16 (replicate 32 254)
  pub file_256 : check_file cable 49_273 (with_events 16 0xBA65_4154) ≡ accepted_with 256
  pub file_257 : check_file cable 49_273 (with_events 17 0x1908_4C13) ≡ refused_with 26 2_952
  -- "a longer section is refusal 20": at its offset, and before its CRC_32 is looked at
  pub section_1024 : check_file cable 49_273 (with_chain 994 0x03CD_AE89) ≡ accepted_with 1
  pub section_1025 : check_file cable 49_273 (with_chain 995 0xE50F_4829) ≡ refused_with 20 18
  pub section_1025_crc : check_file cable 49_273 (with_chain 995 0) ≡ refused_with 20 18
  pub section_1025_broadcast : check_file broadcast 49_273 (with_chain 995 0xE50F_4829) ≡ accepted_with 1
  pub section_1025_crc_broadcast : check_file broadcast 49_273 (with_chain 995 0) ≡ refused_with 21 18
