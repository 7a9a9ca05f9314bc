-- Read's refusals 24 to 27 computed, each rule broken on its own, and which comes first (01, "When a call says no").
-- Some more are among the examples of crate sections. The value is in proofs/Refused.antt. Assumes nothing.
use Rattle.std.specs.Prelude.{◌≡◌, [], ◌∷◌, ◌++◌}
use Rattle.eit.specs.Sizes.{broadcast}
use Rattle.sections.specs.Read.{check_file, read}
use Rattle.sections.specs.Files.{section, event_at, with_event, start_at_one, one_hour, no_descriptors}
use Rattle.sections.specs.FileAnswers.{check_answer, refused_with}

pub record EventRefusals : Type 0 where
  pub event_kept : (check_answer (with_event start_at_one one_hour no_descriptors)).number ≡ 0
  pub other_table : check_answer (with_event (0xC0 ∷ 0x7D ∷ 0x01 ∷ 0x00 ∷ 0x00 ∷ []) one_hour no_descriptors)
      ≡ refused_with 24 0
  pub before_base : check_answer (with_event (0xC0 ∷ 0x78 ∷ 0x01 ∷ 0x00 ∷ 0x00 ∷ []) one_hour no_descriptors)
      ≡ refused_with 24 0
  -- 24:00 of the day before the base day: refused for that day, too
  pub hour_24 : check_answer (with_event (0xC0 ∷ 0x78 ∷ 0x24 ∷ 0x00 ∷ 0x00 ∷ []) one_hour no_descriptors) ≡ refused_with 24 0
  pub no_digit : check_answer (with_event (0xC0 ∷ 0x79 ∷ 0x00 ∷ 0x0A ∷ 0x00 ∷ []) one_hour no_descriptors)
      ≡ refused_with 24 0
  pub no_duration : check_answer (with_event start_at_one (0x00 ∷ 0x00 ∷ 0x00 ∷ []) no_descriptors) ≡ refused_with 24 0
  pub duration_most : (check_answer (with_event start_at_one (0x99 ∷ 0x59 ∷ 0x59 ∷ []) no_descriptors)).number ≡ 0
  pub minute_60 : check_answer (with_event start_at_one (0x01 ∷ 0x60 ∷ 0x00 ∷ []) no_descriptors) ≡ refused_with 24 0
  pub off_air_holds : (check_answer (with_event start_at_one one_hour (0xA0 ∷ 0x00 ∷ []))).number ≡ 0
  pub free : (check_answer (with_event start_at_one one_hour (0x10 ∷ 0x00 ∷ []))).number ≡ 0
  pub running : check_answer (with_event start_at_one one_hour (0x80 ∷ 0x00 ∷ [])) ≡ refused_with 24 0
  pub chain : (check_answer (with_event start_at_one one_hour (0x00 ∷ 0x02 ∷ 0x4D ∷ 0x00 ∷ []))).number ≡ 0
  pub no_chain : check_answer (with_event start_at_one one_hour (0x00 ∷ 0x02 ∷ 0x4D ∷ 0x01 ∷ [])) ≡ refused_with 24 0
  pub chain_past_end : check_answer (with_event start_at_one one_hour (0x00 ∷ 0x02 ∷ 0x4D ∷ [])) ≡ refused_with 24 0
  pub byte_left : check_answer (with_event start_at_one one_hour (0x00 ∷ 0x00 ∷ 0x00 ∷ [])) ≡ refused_with 24 0
  pub empty_not_alone : check_answer (section 0x50 0 1 1 0x50 []) ≡ refused_with 24 0
  pub empty_second :
      check_answer (section 0x50 0 1 1 0x50 (event_at 1 0x00 0x00) ++ section 0x50 1 1 1 0x50 [])
      ≡ refused_with 24 30
  pub same_start : check_answer (section 0x50 0 0 0 0x50 (event_at 1 0x01 0x00 ++ event_at 2 0x01 0x00)) ≡ refused_with 24 0
  pub earlier_start :
      check_answer (section 0x50 0 1 1 0x50 (event_at 1 0x01 0x00) ++ section 0x50 1 1 1 0x50 (event_at 2 0x00 0x59))
      ≡ refused_with 24 30
  pub same_id :
      check_answer (section 0x50 0 0 0 0x50 (event_at 1 0x00 0x00 ++ event_at 2 0x00 0x30 ++ event_at 1 0x01 0x00))
      ≡ refused_with 24 0
  -- 26, behind 24 and before 25
  pub limit_held :
      (check_file (record { section_limit = 4_096; event_limit = 1 }) 49_273
      (with_event start_at_one one_hour no_descriptors)).number ≡ 0
  pub above_limit_early : check_file (record { section_limit = 4_096; event_limit = 1 }) 49_273
      (section 0x50 0 8 0 0x50 (event_at 1 0x00 0x00 ++ event_at 2 0x00 0x30)) ≡ refused_with 26 0
  pub above_limit_next : check_file (record { section_limit = 4_096; event_limit = 1 }) 49_273
      (section 0x50 0 8 0 0x50 (event_at 1 0x00 0x00) ++ section 0x50 8 8 8 0x50 (event_at 2 0x03 0x00))
      ≡ refused_with 26 30
  -- 25, with the file's length, and 27 behind it
  pub empty_file_holds : check_answer [] ≡ refused_with 25 0
  pub segment_early : check_answer (section 0x50 0 1 1 0x50 (event_at 1 0x00 0x00)) ≡ refused_with 25 30
  pub table_early : check_answer (section 0x50 0 8 0 0x50 []) ≡ refused_with 25 18
  pub last_table_early : check_answer (section 0x50 0 0 0 0x51 []) ≡ refused_with 25 18
  pub early_and_short :
      read broadcast 49_273 (section 0x50 0 8 0 0x50 (event_at 1 0x00 0x00)) (7 ∷ [])
      ≡ record { answer = refused_with 25 30; buffer = 7 ∷ [] }
  pub refused_leaves :
      read broadcast 49_273 (section 0x50 0 0 0 0x50 (event_at 1 0x03 0x00)) (7 ∷ 7 ∷ 7 ∷ 7 ∷ 7 ∷ 7 ∷ [])
      ≡ record { answer = refused_with 24 0; buffer = 7 ∷ 7 ∷ 7 ∷ 7 ∷ 7 ∷ 7 ∷ [] }
