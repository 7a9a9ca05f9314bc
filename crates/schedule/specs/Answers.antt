-- Build's answers computed: outputs at the limit, the versions, and which refusal comes first (01, "When a call says
-- no": "Build: 1, 2, 12, 10, 11"). The value is in proofs/Examples.antt. Assumes nothing.
use Rattle.std.specs.Prelude.{ℕ, ◌≡◌, List, [], ◌∷◌, ◌++◌, map, replicate}
use Rattle.eit.specs.Fields.{field}
use Rattle.sections.specs.Decode.{split_file}
use Rattle.sections.specs.Read.{check_file}
use Rattle.sections.specs.FileAnswers.{accepted_under}
use Rattle.schedule.specs.Build.{Built, file_of}
use Rattle.schedule.specs.ExampleLists.{Case, plain_events, gap, described, unsound}
use Rattle.schedule.specs.ExampleCalls.{build_under, build_with, plan_with}
use Rattle.schedule.specs.Examples.{sections_of_at_most}

-- Build in sections that are too short for an event with descriptors
abbrev pub build_short : Case → ℕ → ℕ → List ℕ → Built
build_short c base version output = build_with (sections_of_at_most 31) c base version output

-- a refusal with its number and value, apart from Build's own words for it
abbrev pub refused_with : ℕ → ℕ → List ℕ → Built
refused_with number value output = record { number = number; value = value; output = output }

-- an event in table 0x52, and its file under versions 7, 8 and 9: a line for each header, event and CRC_32
abbrev pub third : Case
third = plain_events 691_200 1

abbrev pub third_file : List ℕ
third_file =
    0x50 ∷ 0xF0 ∷ 0x0F ∷ 0x00 ∷ 0x01 ∷ 0xCF ∷ 0x00 ∷ 0x00 ∷ 0x00 ∷ 0x02 ∷ 0x00 ∷ 0x03 ∷ 0x00 ∷ 0x52
    ∷ 0xDA ∷ 0xEF ∷ 0xA5 ∷ 0x91
    ∷ 0x51 ∷ 0xF0 ∷ 0x0F ∷ 0x00 ∷ 0x01 ∷ 0xD1 ∷ 0x00 ∷ 0x00 ∷ 0x00 ∷ 0x02 ∷ 0x00 ∷ 0x03 ∷ 0x00 ∷ 0x52
    ∷ 0x2E ∷ 0x9E ∷ 0xB5 ∷ 0x82
    ∷ 0x52 ∷ 0xF0 ∷ 0x1B ∷ 0x00 ∷ 0x01 ∷ 0xD3 ∷ 0x00 ∷ 0x00 ∷ 0x00 ∷ 0x02 ∷ 0x00 ∷ 0x03 ∷ 0x00 ∷ 0x52
    ∷ 0x00 ∷ 0x01 ∷ 0xC0 ∷ 0x81 ∷ 0x00 ∷ 0x00 ∷ 0x00 ∷ 0x00 ∷ 0x00 ∷ 0x01 ∷ 0x00 ∷ 0x00
    ∷ 0x9B ∷ 0x87 ∷ 0x21 ∷ 0xAE ∷ []

pub record Answers : Type 0 where
  -- an output that is just long enough, under version 5; and one that is a byte short
  pub version_written :
      build_short (plain_events 0 0) 49_273 5 (replicate 18 0xAA)
      ≡ record {
        number = 0;
        value = 18;
        output =
            0x50 ∷ 0xF0 ∷ 0x0F ∷ 0x00 ∷ 0x01 ∷ 0xCB ∷ 0x00 ∷ 0x00 ∷ 0x00 ∷ 0x02 ∷ 0x00 ∷ 0x03 ∷ 0x00 ∷ 0x50
            ∷ 0x16 ∷ 0x2C ∷ 0x11 ∷ 0xBE ∷ [];
      }
  pub byte_short : build_short (plain_events 0 0) 49_273 0 (replicate 17 0xAA) ≡ refused_with 11 18 (replicate 17 0xAA)
  -- 02, W-208: each table's own version, in each of its sections: the version bytes of all sections of `gap`
  pub versions_by_section :
      map (field 5 1)
      (split_file
      (file_of (build_under (sections_of_at_most 54) gap 49_273 (7 ∷ 8 ∷ 9 ∷ replicate 13 31) (replicate 198 0xAA))))
      ≡ 0xCF ∷ 0xCF ∷ 0xCF ∷ 0xCF ∷ 0xD1 ∷ 0xD3 ∷ 0xD3 ∷ []
  -- "A round trip compares versions of present tables only": those of absent tables are nowhere in the file
  pub versions_written :
      build_under (sections_of_at_most 31) third 49_273 (7 ∷ 8 ∷ 9 ∷ replicate 13 31) (replicate 67 0xAA)
      ≡ record { number = 0; value = 66; output = third_file ++ (0xAA ∷ []) }
  pub versions_back : check_file (sections_of_at_most 31) 49_273 third_file ≡ accepted_under (7 ∷ 8 ∷ 9 ∷ replicate 13 0) 1
  -- "2 is given if any is above 31": of a table that the file has, and of one that it lacks; sixteen times 31 is legal
  pub version_present :
      build_under (sections_of_at_most 31) third 49_273 (7 ∷ 32 ∷ 9 ∷ replicate 13 0) (replicate 67 0xAA)
      ≡ refused_with 2 0 (replicate 67 0xAA)
  pub version_absent :
      build_under (sections_of_at_most 31) third 49_273 (replicate 15 0 ++ (32 ∷ [])) (replicate 67 0xAA)
      ≡ refused_with 2 0 (replicate 67 0xAA)
  pub version_most :
      build_short (plain_events 0 0) 49_273 31 (replicate 18 0xAA)
      ≡ record {
        number = 0;
        value = 18;
        output =
            0x50 ∷ 0xF0 ∷ 0x0F ∷ 0x00 ∷ 0x01 ∷ 0xFF ∷ 0x00 ∷ 0x00 ∷ 0x00 ∷ 0x02 ∷ 0x00 ∷ 0x03 ∷ 0x00 ∷ 0x50
            ∷ 0xFB ∷ 0xA2 ∷ 0xB2 ∷ 0x98 ∷ [];
      }
  -- 1, 2, 12 and 10, whatever the output
  pub base : build_short (plain_events 0 0) 65_473 0 (replicate 99 0xAA) ≡ refused_with 1 0 (replicate 99 0xAA)
  pub version : build_short (plain_events 0 0) 49_273 32 (replicate 99 0xAA) ≡ refused_with 2 0 (replicate 99 0xAA)
  pub unsound_list : build_short unsound 65_472 31 (replicate 99 0xAA) ≡ refused_with 12 0 (replicate 99 0xAA)
  pub unpackable : build_short described 65_472 31 (replicate 99 0xAA) ≡ refused_with 10 0 (replicate 99 0xAA)
  -- each before those that follow it
  pub base_first : build_short unsound 65_473 32 [] ≡ refused_with 1 0 []
  pub absent_version_first : build_under (sections_of_at_most 31) unsound 49_273 (replicate 15 0 ++ (32 ∷ [])) []
      ≡ refused_with 2 0 []
  pub version_first : build_short unsound 49_273 32 [] ≡ refused_with 2 0 []
  pub unsound_first : build_short unsound 49_273 0 [] ≡ refused_with 12 0 []
  pub unpackable_first : build_short described 49_273 0 [] ≡ refused_with 10 0 []
  -- Plan of an unsound list
  pub unsound_plan : plan_with (sections_of_at_most 31) unsound ≡ replicate 16 (replicate 32 254)
