-- The samples that document 01 marks P ("Samples with the cuts marked"), each below its sentence: one table. Its one
-- theorem is `samples` of proofs/Samples.antt. Assumes nothing.
use Rattle.std.specs.Prelude.{◌+◌, ◌*◌, ◌≡◌, [], ◌∷◌, ◌++◌, replicate}
use Rattle.eit.specs.Sizes.{section_overhead}
use Rattle.eit.specs.Time.{start_bytes, duration_bytes}
use Rattle.eit.specs.Crc.{crc32}
use Rattle.sections.specs.Section.{event_overhead}
use Rattle.schedule.specs.Build.{file_of}
use Rattle.schedule.specs.ExampleLists.{plain_events}
use Rattle.schedule.specs.ExampleCalls.{padded}
use Rattle.calendar.specs.Date.{date_of}
use Rattle.calendar.specs.Calendar.{on}
use Rattle.samples_proved.specs.SampleLists.{long, overlong, overlongs, pair, programme, zeros, empty_file}
use Rattle.samples_proved.specs.SampleCalls.{build_of, answer, header_after, event_after, plan_of, cuts, numbers}
use Rattle.samples_proved.specs.SampleCalls.{edit_of}
use Rattle.samples_proved.specs.SampleCalls.{empty_segment_cuts, empty_table_cuts}

pub record Samples : Type 0 where
  -- "1993-10-13 12:45:00 is C0 79 12 45 00 (EN 300 468, 5.2.4); 01:45:30 is 01 45 30." The day's MJD; then by that base
  -- day and by one two days before it; then as an event of Build's file, after four empty segments and after twenty
  pub day : date_of 49_273 ≡ on 1993 10 13
  pub date : start_bytes 49_273 45_900 ≡ 0xC0 ∷ 0x79 ∷ 0x12 ∷ 0x45 ∷ 0x00 ∷ []
  pub date_later : start_bytes 49_271 (2 * 86_400 + 45_900) ≡ 0xC0 ∷ 0x79 ∷ 0x12 ∷ 0x45 ∷ 0x00 ∷ []
  pub lasting : duration_bytes 6_330 ≡ 0x01 ∷ 0x45 ∷ 0x30 ∷ []
  pub date_built :
      event_after 4 (build_of (programme 45_900) 49_273 0 (replicate 102 0xAA))
      ≡ 0x00 ∷ 0x01 ∷ 0xC0 ∷ 0x79 ∷ 0x12 ∷ 0x45 ∷ 0x00 ∷ 0x01 ∷ 0x45 ∷ 0x30 ∷ 0x00 ∷ 0x00 ∷ []
  pub date_later_built :
      event_after 20 (build_of (programme (2 * 86_400 + 45_900)) 49_271 0 (replicate 390 0xAA))
      ≡ 0x00 ∷ 0x01 ∷ 0xC0 ∷ 0x79 ∷ 0x12 ∷ 0x45 ∷ 0x00 ∷ 0x01 ∷ 0x45 ∷ 0x30 ∷ 0x00 ∷ 0x00 ∷ []
  -- "start 10,799: segment 0; 10,800: section 8."
  pub segment_end : cuts (plain_events 10_799 1) ≡ (0x50, 0, 1) ∷ []
  pub segment_end_plan : plan_of (plain_events 10_799 1) ≡ padded ((1 ∷ []) ∷ [])
  pub segment_end_build : answer (plain_events 10_799 1)
      ≡ record { number = 11; value = section_overhead + event_overhead; output = [] }
  pub segment_next : cuts (plain_events 10_800 1) ≡ (0x50, 0, 0) ∷ (0x50, 8, 1) ∷ []
  pub segment_next_plan : plan_of (plain_events 10_800 1) ≡ padded ((1 ∷ 1 ∷ []) ∷ [])
  pub segment_next_build :
      answer (plain_events 10_800 1) ≡ record { number = 11; value = 2 * section_overhead + event_overhead; output = [] }
  -- "345,599: 0x50, segment 31; 345,600: 0x51, section 0. An event only there leaves 0x50 one empty section,
  -- last_section_number 0."
  pub table_end : cuts (plain_events 345_599 1) ≡ empty_segment_cuts 0x50 31 ++ ((0x50, 248, 1) ∷ [])
  pub table_end_plan : plan_of (plain_events 345_599 1) ≡ padded (replicate 32 1 ∷ [])
  pub table_end_build : answer (plain_events 345_599 1)
      ≡ record { number = 11; value = 32 * section_overhead + event_overhead; output = [] }
  pub table_next : cuts (plain_events 345_600 1) ≡ (0x50, 0, 0) ∷ (0x51, 0, 1) ∷ []
  pub table_next_numbers : numbers (plain_events 345_600 1) ≡ (0, 0, 0, 0x51) ∷ (0, 0, 0, 0x51) ∷ []
  pub table_next_plan : plan_of (plain_events 345_600 1) ≡ padded ((1 ∷ []) ∷ (1 ∷ []) ∷ [])
  pub table_next_build : answer (plain_events 345_600 1)
      ≡ record { number = 11; value = 2 * section_overhead + event_overhead; output = [] }
  pub table_next_first :
      header_after 0 (build_of (plain_events 345_600 1) 49_273 0 (replicate 48 0xAA))
      ≡ 0x50 ∷ 0xF0 ∷ 0x0F ∷ 0x00 ∷ 0x01 ∷ 0xC1 ∷ 0x00 ∷ 0x00 ∷ 0x00 ∷ 0x02 ∷ 0x00 ∷ 0x03 ∷ 0x00 ∷ 0x51 ∷ []
  pub table_next_second :
      header_after 1 (build_of (plain_events 345_600 1) 49_273 0 (replicate 48 0xAA))
      ≡ 0x51 ∷ 0xF0 ∷ 0x1B ∷ 0x00 ∷ 0x01 ∷ 0xC1 ∷ 0x00 ∷ 0x00 ∷ 0x00 ∷ 0x02 ∷ 0x00 ∷ 0x03 ∷ 0x00 ∷ 0x51 ∷ []
  -- "5,529,599: 0x5F, segment 31; 5,529,600: refusal 5." Fifteen tables of one empty section lie before it; PUT by its
  -- bytes
  pub start_most : cuts (plain_events 5_529_599 1)
      ≡ empty_table_cuts 0x50 15 ++ empty_segment_cuts 0x5F 31 ++ ((0x5F, 248, 1) ∷ [])
  pub start_most_plan : plan_of (plain_events 5_529_599 1) ≡ padded (replicate 15 (1 ∷ []) ++ (replicate 32 1 ∷ []))
  pub start_most_build :
      answer (plain_events 5_529_599 1)
      ≡ record { number = 11; value = (15 + 32) * section_overhead + event_overhead; output = [] }
  pub start_most_put :
      edit_of (0x01 ∷ 0 ∷ 1 ∷ 0x00 ∷ 0x54 ∷ 0x5F ∷ 0xFF ∷ 0 ∷ 0 ∷ 0 ∷ 60 ∷ 0 ∷ 0 ∷ 0 ∷ 0 ∷ 0 ∷ 0 ∷ 0 ∷ [])
      ≡ record { number = 0; value = 1; list = record { buffer = 1 ∷ 5_529_599 ∷ 60 ∷ replicate 9 0; count = 1 } }
  pub start_above_put :
      edit_of (0x01 ∷ 0 ∷ 1 ∷ 0x00 ∷ 0x54 ∷ 0x60 ∷ 0x00 ∷ 0 ∷ 0 ∷ 0 ∷ 60 ∷ 0 ∷ 0 ∷ 0 ∷ 0 ∷ 0 ∷ 0 ∷ 0 ∷ [])
      ≡ record { number = 5; value = 0; list = zeros }
  -- "no events, ids 1, 2, 3 (service, stream, network), version 0: 18 bytes, first 14 are
  -- 50 F0 0F 00 01 C1 00 00 00 02 00 03 00 50." By the least base day and by the most; bytes beyond the file stay
  pub no_events :
      build_of (plain_events 0 0) 0 0 (replicate 20 0xAA)
      ≡ record { number = 0; value = 18; output = empty_file ++ replicate 2 0xAA }
  pub no_events_late :
      build_of (plain_events 0 0) 65_472 0 (replicate 20 0xAA)
      ≡ record { number = 0; value = 18; output = empty_file ++ replicate 2 0xAA }
  pub no_events_crc : crc32 (file_of (build_of (plain_events 0 0) 0 0 (replicate 20 0xAA))) ≡ 0
  pub no_events_cuts : cuts (plain_events 0 0) ≡ (0x50, 0, 0) ∷ []
  pub no_events_plan : plan_of (plain_events 0 0) ≡ padded ((1 ∷ []) ∷ [])
  -- "chain of 4,066: one section; 4,067: refusal 10." It returns the lowest such segment index
  pub chain_fits : cuts (long 0 1) ≡ (0x50, 0, 1) ∷ []
  pub chain_fits_plan : plan_of (long 0 1) ≡ padded ((1 ∷ []) ∷ [])
  pub chain_fits_build : answer (long 0 1)
      ≡ record { number = 11; value = section_overhead + (event_overhead + 4_066); output = [] }
  pub chain_above_plan : plan_of overlong ≡ padded ((1 ∷ []) ∷ (1 ∷ 255 ∷ []) ∷ [])
  pub chain_above_build : answer overlong ≡ record { number = 10; value = 33; output = [] }
  pub chains_above_plan : plan_of overlongs ≡ padded ((255 ∷ []) ∷ (1 ∷ 255 ∷ []) ∷ [])
  pub chains_above_build : answer overlongs ≡ record { number = 10; value = 0; output = [] }
  -- "two events in a segment, chains 4,054 bytes together: one section; 4,055: two."
  pub two_fit : cuts (pair 2_027 2_027) ≡ (0x50, 0, 2) ∷ []
  pub two_fit_plan : plan_of (pair 2_027 2_027) ≡ padded ((1 ∷ []) ∷ [])
  pub two_fit_build :
      answer (pair 2_027 2_027)
      ≡ record { number = 11; value = section_overhead + (2 * event_overhead + 4_054); output = [] }
  pub two_apart : cuts (pair 2_027 2_028) ≡ (0x50, 0, 1) ∷ (0x50, 1, 1) ∷ []
  pub two_apart_plan : plan_of (pair 2_027 2_028) ≡ padded ((2 ∷ []) ∷ [])
  pub two_apart_build :
      answer (pair 2_027 2_028)
      ≡ record { number = 11; value = 2 * section_overhead + (2 * event_overhead + 4_055); output = [] }
  -- "339 events without descriptors in a segment: one section; 340: two, of 339 and 1."
  pub many_fit : cuts (plain_events 0 339) ≡ (0x50, 0, 339) ∷ []
  pub many_fit_plan : plan_of (plain_events 0 339) ≡ padded ((1 ∷ []) ∷ [])
  pub many_fit_build : answer (plain_events 0 339)
      ≡ record { number = 11; value = section_overhead + 339 * event_overhead; output = [] }
  pub one_more : cuts (plain_events 0 340) ≡ (0x50, 0, 339) ∷ (0x50, 1, 1) ∷ []
  pub one_more_plan : plan_of (plain_events 0 340) ≡ padded ((2 ∷ []) ∷ [])
  pub one_more_build : answer (plain_events 0 340)
      ≡ record { number = 11; value = 2 * section_overhead + 340 * event_overhead; output = [] }
  -- "eight chains of 4,066 in a segment: eight sections; nine: 10." The nine are in the last segment
  pub eight :
      cuts (long 0 8)
      ≡ (0x50, 0, 1) ∷ (0x50, 1, 1) ∷ (0x50, 2, 1) ∷ (0x50, 3, 1) ∷ (0x50, 4, 1) ∷ (0x50, 5, 1) ∷ (0x50, 6, 1) ∷
      (0x50, 7, 1) ∷ []
  pub eight_plan : plan_of (long 0 8) ≡ padded ((8 ∷ []) ∷ [])
  pub eight_build :
      answer (long 0 8) ≡ record { number = 11; value = 8 * (section_overhead + (event_overhead + 4_066)); output = [] }
  pub nine_plan : plan_of (long 5_518_800 9) ≡ padded (replicate 15 (1 ∷ []) ++ ((replicate 31 1 ++ (255 ∷ [])) ∷ []))
  pub nine_build : answer (long 5_518_800 9) ≡ record { number = 10; value = 511; output = [] }
  -- "PUT, WITHDRAW, UNDO, UNDO: empty list. UNDO alone: 4."
  pub undone :
      edit_of
      (0x01 ∷ 0 ∷ 1 ∷ 0 ∷ 0 ∷ 0xB3 ∷ 0x4C ∷ 0 ∷ 0 ∷ 0x18 ∷ 0xBA ∷ 0 ∷ 0 ∷ 0 ∷ 0 ∷ 0 ∷ 0 ∷ 0
      ∷ 0x02 ∷ 0 ∷ 1 ∷ 0x04 ∷ 0x04 ∷ [])
      ≡ record { number = 0; value = 0; list = zeros }
  pub undo_alone : edit_of (0x04 ∷ []) ≡ record { number = 4; value = 0; list = zeros }
