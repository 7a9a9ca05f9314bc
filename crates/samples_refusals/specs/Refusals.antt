-- Read's refusals 1 and 20 to 23 computed, each rule broken on its own, and which comes first (01, "When a call says
-- no"). Some more are among the examples of crate sections. The value is in proofs/Refused.antt. Assumes nothing.
use Rattle.std.specs.Prelude.{◌≡◌, [], ◌∷◌, ◌++◌, take}
use Rattle.eit.specs.Sizes.{broadcast}
use Rattle.sections.specs.Read.{check_file}
use Rattle.sections.specs.Files.{with_crc, section, with_bits, with_identity, event_at, with_event, start_at_one, one_hour}
use Rattle.sections.specs.Files.{no_descriptors}
use Rattle.sections.specs.FileAnswers.{check_answer, refused_with}

pub record Refusals : Type 0 where
  pub base : check_file broadcast 65_473 [] ≡ refused_with 1 0
  pub base_most : (check_file broadcast 65_472 (section 0x50 0 0 0 0x50 [])).number ≡ 0
  -- 20, at the section's offset
  pub one_byte : check_answer (0x50 ∷ []) ≡ refused_with 20 0
  pub truncated : check_answer (take 17 (section 0x50 0 0 0 0x50 [])) ≡ refused_with 20 0
  pub byte_behind : check_answer (section 0x50 0 0 0 0x50 [] ++ (0x50 ∷ [])) ≡ refused_with 20 18
  pub table_below : check_answer (section 0x4F 0 0 0 0x50 []) ≡ refused_with 20 0
  pub table_above : check_answer (section 0x50 0 0 0 0x50 [] ++ section 0x60 0 0 0 0x50 []) ≡ refused_with 20 18
  pub too_short :
      check_answer
      (with_crc (0x50 ∷ 0xF0 ∷ 0x0E ∷ 0x00 ∷ 0x01 ∷ 0xC1 ∷ 0x00 ∷ 0x00 ∷ 0x00 ∷ 0x02 ∷ 0x00 ∷ 0x03 ∷ 0x00 ∷ []))
      ≡ refused_with 20 0
  pub too_long :
      check_file (record { section_limit = 29; event_limit = 9 }) 49_273 (with_event start_at_one one_hour no_descriptors)
      ≡ refused_with 20 0
  pub just_fits :
      (check_file (record { section_limit = 30; event_limit = 9 }) 49_273
      (with_event start_at_one one_hour no_descriptors)).number ≡ 0
  -- 21, before 22
  pub crc :
      check_answer (0x50 ∷ 0xF0 ∷ 0x0F ∷ 0x00 ∷ 0x01 ∷ 0xC0 ∷ 0x00 ∷ 0x00 ∷ 0x00 ∷ 0x02 ∷ 0x00 ∷ 0x03 ∷ 0x00 ∷ 0x50
      ∷ 0x78 ∷ 0xAE ∷ 0x5B ∷ 0xF0 ∷ [])
      ≡ refused_with 21 0
  -- 22, before 23
  pub bits_kept : (check_answer (with_bits 0xF0 0xC1)).number ≡ 0
  pub high_bits : check_answer (with_bits 0xE0 0xC1) ≡ refused_with 22 0
  pub syntax_bit : check_answer (with_bits 0x70 0xC1) ≡ refused_with 22 0
  pub reserved_bits : check_answer (with_bits 0xF0 0x41) ≡ refused_with 22 0
  pub identity_kept : (check_answer (with_identity 1 0xC1 2 3)).number ≡ 0
  pub service : check_answer (with_identity 9 0xC1 2 3) ≡ refused_with 22 18
  pub version : check_answer (with_identity 1 0xC3 2 3) ≡ refused_with 22 18
  pub stream : check_answer (with_identity 1 0xC1 9 3) ≡ refused_with 22 18
  pub network : check_answer (with_identity 1 0xC1 2 9) ≡ refused_with 22 18
  pub last_table_below : check_answer (section 0x50 1 0 0 0x4F []) ≡ refused_with 22 0
  pub last_table_above : check_answer (section 0x50 0 0 0 0x60 []) ≡ refused_with 22 0
  pub last_table_other : check_answer (section 0x50 0 8 0 0x50 [] ++ section 0x50 8 8 8 0x51 []) ≡ refused_with 22 18
  -- 23, before 24
  pub first_table : check_answer (section 0x51 0 0 0 0x51 []) ≡ refused_with 23 0
  pub first_number : check_answer (section 0x50 8 8 8 0x50 []) ≡ refused_with 23 0
  pub above_segment_last : check_answer (section 0x50 0 8 0 0x50 [] ++ section 0x50 8 8 7 0x50 []) ≡ refused_with 23 18
  pub above_last : check_answer (section 0x50 0 0 1 0x50 []) ≡ refused_with 23 0
  pub segment_of_nine : check_answer (section 0x50 0 8 8 0x50 []) ≡ refused_with 23 0
  pub last_in_segment : check_answer (section 0x50 0 7 0 0x50 []) ≡ refused_with 23 0
  pub skipped_number :
      check_answer (section 0x50 0 2 2 0x50 (event_at 1 0x00 0x00) ++ section 0x50 2 2 2 0x50 (event_at 2 0x01 0x00))
      ≡ refused_with 23 30
  pub other_segment_last :
      check_answer (section 0x50 0 8 1 0x50 (event_at 1 0x00 0x00) ++ section 0x50 1 8 2 0x50 (event_at 2 0x01 0x00))
      ≡ refused_with 23 30
  pub other_last :
      check_answer (section 0x50 0 1 1 0x50 (event_at 1 0x00 0x00) ++ section 0x50 1 8 1 0x50 (event_at 2 0x01 0x00))
      ≡ refused_with 23 30
  pub no_gap : check_answer (section 0x50 0 8 0 0x50 [] ++ section 0x50 1 8 1 0x50 []) ≡ refused_with 23 18
  pub other_last_behind : check_answer (section 0x50 0 8 0 0x50 [] ++ section 0x50 8 16 8 0x50 []) ≡ refused_with 23 18
  pub table_again : check_answer (section 0x50 0 0 0 0x51 [] ++ section 0x50 0 0 0 0x51 []) ≡ refused_with 23 18
  pub skipped_table : check_answer (section 0x50 0 0 0 0x52 [] ++ section 0x52 0 0 0 0x52 []) ≡ refused_with 23 18
  pub table_number : check_answer (section 0x50 0 0 0 0x51 [] ++ section 0x51 8 8 8 0x51 []) ≡ refused_with 23 18
  pub past_last_table : check_answer (section 0x50 0 0 0 0x50 [] ++ section 0x51 0 0 0 0x50 []) ≡ refused_with 23 18
