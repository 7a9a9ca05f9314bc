-- Versions by table computed (02, W-208: "EN 300 468 numbers versions per sub-table"): a file whose tables have
-- versions of their own, and what is said of a section whose version is not that of an earlier section of its table.
-- Some more are in crate samples_refusals. Version bytes 0xC3, 0xC5 and 0xC7 are versions 1, 2 and 3. The value is in
-- proofs/VersionExamples.antt. Assumes nothing.
use Rattle.std.specs.Prelude.{ℕ, zero, suc, ◌-◌, ◌≡◌, List, [], ◌∷◌, ◌++◌, replicate}
use Rattle.eit.specs.Sizes.{broadcast}
use Rattle.sections.specs.Section.{version_of}
use Rattle.sections.specs.Read.{read}
use Rattle.sections.specs.Files.{section_with_version}
use Rattle.sections.specs.FileAnswers.{identity_under, check_answer, accepted_under, refused_with}

-- a section without events, alone in its segment: version byte, table_id, section_number, last_section_number,
-- last_table_id
abbrev pub empty_section : ℕ → ℕ → ℕ → ℕ → ℕ → List ℕ
empty_section version table number last last_table = section_with_version version table number last number last_table []

-- tables 0x50 and 0x51 with versions 1 and 2, an event in each: a line for each header, event and CRC_32
abbrev pub two_tables : List ℕ
two_tables =
    0x50 ∷ 0xF0 ∷ 0x1B ∷ 0x00 ∷ 0x01 ∷ 0xC3 ∷ 0x00 ∷ 0x00 ∷ 0x00 ∷ 0x02 ∷ 0x00 ∷ 0x03 ∷ 0x00 ∷ 0x51
    ∷ 0x00 ∷ 0x01 ∷ 0xC0 ∷ 0x79 ∷ 0x00 ∷ 0x00 ∷ 0x00 ∷ 0x00 ∷ 0x00 ∷ 0x01 ∷ 0x00 ∷ 0x00
    ∷ 0x09 ∷ 0x6D ∷ 0x4C ∷ 0x5F
    ∷ 0x51 ∷ 0xF0 ∷ 0x1B ∷ 0x00 ∷ 0x01 ∷ 0xC5 ∷ 0x00 ∷ 0x00 ∷ 0x00 ∷ 0x02 ∷ 0x00 ∷ 0x03 ∷ 0x00 ∷ 0x51
    ∷ 0x00 ∷ 0x02 ∷ 0xC0 ∷ 0x7D ∷ 0x00 ∷ 0x00 ∷ 0x00 ∷ 0x00 ∷ 0x00 ∷ 0x01 ∷ 0x00 ∷ 0x00
    ∷ 0xB6 ∷ 0x1D ∷ 0x61 ∷ 0x17 ∷ []

-- the numbers from n down, k of them
abbrev pub down : ℕ → ℕ → List ℕ
down n zero = []
down n (suc k) = n ∷ down (n - 1) k

-- three empty segments, the third with its version byte given, at offset 36
abbrev pub segments_with : ℕ → List ℕ
segments_with version =
    empty_section 0xC3 0x50 0 16 0x50 ++ empty_section 0xC3 0x50 8 16 0x50 ++ empty_section version 0x50 16 16 0x50

-- two tables, the second of two segments, the last with its version byte given, at offset 36
abbrev pub later_table_with : ℕ → List ℕ
later_table_with version =
    empty_section 0xC3 0x50 0 0 0x51 ++ empty_section 0xC5 0x51 0 8 0x51 ++ empty_section version 0x51 8 8 0x51

-- three tables of four, with versions 1, 2 and 3, then section 0 of a table, with its version byte, at offset 54
abbrev pub comes_back : ℕ → ℕ → List ℕ
comes_back table version =
    empty_section 0xC3 0x50 0 0 0x53
    ++ empty_section 0xC5 0x51 0 0 0x53
    ++ empty_section 0xC7 0x52 0 0 0x53
    ++ empty_section version table 0 0 0x53

-- the first of three segments, then the third with its version byte given, at offset 18
abbrev pub skips_with : ℕ → List ℕ
skips_with version = empty_section 0xC3 0x50 0 16 0x50 ++ empty_section version 0x50 16 16 0x50

pub record VersionExamples : Type 0 where
  -- "so identity now has sixteen versions": the first is that of table 0x50, the last that of table 0x5F
  pub version_of_holds : (version_of (identity_under (down 31 16)) 0x50 ≡ 31)
      × (version_of (identity_under (down 31 16)) 0x51 ≡ 30)
      × (version_of (identity_under (down 31 16)) 0x5F ≡ 16)
  -- "Read gives 0 for absent tables": of two tables
  pub two_versions :
      read broadcast 49_273 two_tables (replicate 12 7)
      ≡ record {
        answer = accepted_under (1 ∷ 2 ∷ replicate 14 0) 2;
        buffer = 1 ∷ 0 ∷ 1 ∷ 0 ∷ 26 ∷ 0 ∷ 2 ∷ 345_600 ∷ 1 ∷ 0 ∷ 56 ∷ 0 ∷ [];
      }
  -- "Number 22 refuses a version that differs within a table only": in a later segment; in a later table, where it is
  -- that of the table before
  pub segments_differ : check_answer (segments_with 0xC5) ≡ refused_with 22 36
  pub later_table_same : check_answer (later_table_with 0xC5) ≡ accepted_under (1 ∷ 2 ∷ replicate 14 0) 0
  pub later_table_differs : check_answer (later_table_with 0xC3) ≡ refused_with 22 36
  -- a table that comes back is compared with its own earlier section, wherever that stood, and not with the section
  -- before: with its own version it is out of its numbering, 23
  pub back_same : check_answer (comes_back 0x50 0xC3) ≡ refused_with 23 54
  pub back_differs : check_answer (comes_back 0x50 0xC5) ≡ refused_with 22 54
  pub back_as_before : check_answer (comes_back 0x50 0xC7) ≡ refused_with 22 54
  -- 22 before 23: another version, and a segment left out
  pub version_first : check_answer (skips_with 0xC5) ≡ refused_with 22 18
