-- Versions by table in Read (02, W-208: "Number 22 refuses a version that differs within a table only"), beside the
-- examples of crate sections: all sixteen tables, each place of a section whose version differs, and which refusal
-- comes first. The value is in proofs/Refused.antt. Assumes nothing.
use Rattle.std.specs.Prelude.{ℕ, ◌≡◌, List, [], ◌∷◌, ◌++◌, replicate}
use Rattle.sections.specs.Files.{covered, section_with_version, event_at, empty_tables}
use Rattle.sections.specs.FileAnswers.{check_answer, accepted_under, refused_with}
use Rattle.sections.specs.VersionExamples.{empty_section, down, segments_with, later_table_with, comes_back, skips_with}

-- two sections of a segment, the second with its version byte given, at offset 30
abbrev pub segment_with : ℕ → List ℕ
segment_with version =
    section_with_version 0xC3 0x50 0 1 1 0x50 (event_at 1 0x00 0x00)
    ++ section_with_version version 0x50 1 1 1 0x50 (event_at 2 0x01 0x00)

pub record VersionRefusals : Type 0 where
  -- versions 31 to 16 in the sixteen tables
  pub sixteen_versions :
      check_answer
      (empty_tables 0x50
      (0xFF ∷ 0xFD ∷ 0xFB ∷ 0xF9 ∷ 0xF7 ∷ 0xF5 ∷ 0xF3 ∷ 0xF1 ∷ 0xEF ∷ 0xED ∷ 0xEB ∷ 0xE9 ∷ 0xE7 ∷ 0xE5 ∷ 0xE3 ∷ 0xE1
      ∷ []))
      ≡ accepted_under (down 31 16) 0
  -- in a segment, and in a later segment
  pub segment_same : check_answer (segment_with 0xC3) ≡ accepted_under (1 ∷ replicate 15 0) 2
  pub segment_differs : check_answer (segment_with 0xC5) ≡ refused_with 22 30
  pub segments_same : check_answer (segments_with 0xC3) ≡ accepted_under (1 ∷ replicate 15 0) 0
  -- in a later table: neither its own version nor that of the table before
  pub later_table_new : check_answer (later_table_with 0xC7) ≡ refused_with 22 36
  -- a table that comes back: the one before the last, and the last, whose section 0 has just come
  pub second_back_same : check_answer (comes_back 0x51 0xC5) ≡ refused_with 23 54
  pub second_back_as_before : check_answer (comes_back 0x51 0xC7) ≡ refused_with 22 54
  pub again_same : check_answer (comes_back 0x52 0xC7) ≡ refused_with 23 54
  pub again_differs : check_answer (comes_back 0x52 0xC3) ≡ refused_with 22 54
  -- a table that has not come has no version to keep; past last_table_id it is 23
  pub next_table_holds : check_answer (comes_back 0x53 0xC9) ≡ accepted_under (1 ∷ 2 ∷ 3 ∷ 4 ∷ replicate 12 0) 0
  pub past_last_table : check_answer (comes_back 0x54 0xC9) ≡ refused_with 23 54
  -- 21, 22, 23: another version with a wrong CRC_32; a segment left out under the same version
  pub crc_first_holds :
      check_answer (empty_section 0xC3 0x50 0 8 0x50 ++ covered 0xC5 0x50 8 8 8 0x50 [] ++ replicate 4 0)
      ≡ refused_with 21 18
  pub number_alone : check_answer (skips_with 0xC3) ≡ refused_with 23 18
