-- Segments, sections and files computed (01, "The file of sections"): segments of starts, bytes of data, records of
-- bytes, counts in segments, files that a rival may have made, and some that Read refuses. The value is in
-- proofs/Examples.antt. Assumes nothing.
use Rattle.std.specs.Prelude.{ℕ, ◌≡◌, Bool, true, false, List, [], ◌∷◌, ◌++◌, replicate}
use Rattle.eit.specs.Sizes.{broadcast}
use Rattle.eit.specs.Events.{Event}
use Rattle.eit.specs.declared.Identity.{Identity}
use Rattle.sections.specs.Segment.{table_first, table_max, segment_index, table_of, first_section, first_of}
use Rattle.sections.specs.Encode.{event_bytes, file_bytes}
use Rattle.sections.specs.Count.{sections_counted, events_counted}
use Rattle.sections.specs.Read.{check_file, read}
use Rattle.sections.specs.Files.{section, with_bits, event_at, with_event, start_at_one, one_hour, no_descriptors}
use Rattle.sections.specs.Files.{plan_sample_file, rival, six_hours, full}
use Rattle.sections.specs.FileAnswers.{check_answer, accepted_with, refused_with}

-- the table of a start, and the first section of its segment
abbrev pub table_and_section : ℕ → ℕ × ℕ
table_and_section start = (table_of (segment_index start), first_section (segment_index start))

abbrev pub identity : Identity
identity =
    record {
      triplet = record { service_id = 1; transport_stream_id = 2; original_network_id = 3 };
      versions = replicate 16 0;
    }

-- an event with one descriptor, off air or not, and with free_CA_mode or not; and its bytes, but for the one that
-- says so
abbrev pub marked : Bool → Bool → Event
marked off_air free_ca =
    record {
      id = 0x1234;
      start = 9_900;
      duration = 6_330;
      off_air = off_air;
      free_ca = free_ca;
      chain = 0x4D ∷ 0x01 ∷ 0x09 ∷ [];
    }

abbrev pub marked_bytes : ℕ → List ℕ
marked_bytes status =
    0x12 ∷ 0x34 ∷ 0xC0 ∷ 0x79 ∷ 0x02 ∷ 0x45 ∷ 0x00 ∷ 0x01 ∷ 0x45 ∷ 0x30 ∷ status ∷ 0x03 ∷ 0x4D ∷ 0x01 ∷ 0x09 ∷ []

-- what Read leaves of six zeros for a file of that event
abbrev pub marked_read : ℕ → List ℕ
marked_read status =
    (read broadcast 49_273 (section 0x50 0 0 0 0x50 (marked_bytes status)) (0 ∷ 0 ∷ 0 ∷ 0 ∷ 0 ∷ 0 ∷ [])).buffer

pub record Examples : Type 0 where
  -- table and first section of the segment that a start lies in
  pub first_sections_holds : (table_and_section 0 ≡ (0x50, 0)) × (table_and_section 10_799 ≡ (0x50, 0))
      × (table_and_section 10_800 ≡ (0x50, 8))
      × (table_and_section 345_599 ≡ (0x50, 248)) × (table_and_section 345_600 ≡ (0x51, 0))
      × (table_and_section 5_529_599 ≡ (0x5F, 248))
  pub tables : (table_first ≡ 0x50) × (table_max ≡ 0x5F)
  pub firsts : (first_of 7 ≡ 0) × (first_of 8 ≡ 8) × (first_of 255 ≡ 248)
  -- running_status 5 for off air, free_CA, and both
  pub event_bytes_holds : (event_bytes 49_273 (marked true false) ≡ marked_bytes 0xA0)
      × (event_bytes 49_273 (marked false true) ≡ marked_bytes 0x10)
      × (event_bytes 49_273 (marked true true) ≡ marked_bytes 0xB0)
  -- version 5 in table 0x51 of 0x52, section 9 of segment 1, whose last is 10, and of a table whose last is 16
  pub section_bytes_holds :
      file_bytes 49_273
      (record {
        header =
            record {
              table_id = 0x51;
              section_number = 9;
              last_section_number = 16;
              segment_last_section_number = 10;
              last_table_id = 0x52;
              triplet = record {
                service_id = 0x1122;
                transport_stream_id = 0x3344;
                original_network_id = 0x5566;
              };
              version = 5;
            };
        events = [];
      }
      ∷ [])
      ≡ 0x51 ∷ 0xF0 ∷ 0x0F ∷ 0x11 ∷ 0x22 ∷ 0xCB ∷ 0x09 ∷ 0x10 ∷ 0x33 ∷ 0x44 ∷ 0x55 ∷ 0x66 ∷ 0x0A ∷ 0x52
      ∷ 0x11 ∷ 0xA6 ∷ 0x7E ∷ 0x17 ∷ []
  pub one_event :
      read broadcast 49_273 plan_sample_file (9 ∷ 9 ∷ 9 ∷ 9 ∷ 9 ∷ 9 ∷ 9 ∷ [])
      ≡ record { answer = accepted_with 1; buffer = 1 ∷ 45_900 ∷ 6_330 ∷ 0 ∷ 98 ∷ 0 ∷ 9 ∷ [] }
  pub answered : check_answer (section 0x50 0 0 0 0x50 (event_at 1 0x00 0x00)) ≡ accepted_with 1
  pub refused : check_answer (section 0x50 0 0 0 0x50 [] ++ (0x50 ∷ [])) ≡ refused_with 20 18
  pub full_accepted :
      check_answer full
      ≡ record {
        number = 0;
        value = 9;
        identity =
            record {
              triplet = record { service_id = 1; transport_stream_id = 2; original_network_id = 3 };
              versions = replicate 16 31;
            };
        count = 9;
      }
  -- marks 4 for off air, 1 for free_CA_mode, and both
  pub marks_read : (marked_read 0xA0 ≡ 0x1234 ∷ 9_900 ∷ 6_330 ∷ 4 ∷ 26 ∷ 3 ∷ [])
      × (marked_read 0x10 ≡ 0x1234 ∷ 9_900 ∷ 6_330 ∷ 1 ∷ 26 ∷ 3 ∷ [])
      × (marked_read 0xB0 ≡ 0x1234 ∷ 9_900 ∷ 6_330 ∷ 5 ∷ 26 ∷ 3 ∷ [])
  pub rival_accepted :
      read broadcast 49_273 rival (0 ∷ 0 ∷ 0 ∷ 0 ∷ 0 ∷ 0 ∷ 0 ∷ 0 ∷ 0 ∷ 0 ∷ 0 ∷ 0 ∷ 0 ∷ 0 ∷ 0 ∷ 0 ∷ 0 ∷ 0 ∷ [])
      ≡ record {
        answer = accepted_with 3;
        buffer = 1 ∷ 0 ∷ 1 ∷ 0 ∷ 26 ∷ 0 ∷ 2 ∷ 3_600 ∷ 1 ∷ 0 ∷ 56 ∷ 0 ∷ 3 ∷ 10_740 ∷ 1 ∷ 0 ∷ 68 ∷ 0 ∷ [];
      }
  pub counted : (sections_counted 49_273 rival 0 ≡ 2) × (sections_counted 49_273 rival 1 ≡ 1)
      × (sections_counted 49_273 rival 2 ≡ 0)
  pub held : (events_counted 49_273 rival 0 1 ≡ 1) × (events_counted 49_273 rival 0 8 ≡ 3)
  -- Read's refusals: current_next 0; a segment left out; an event of another segment; the id of an event in an
  -- earlier section; a broken event loop that also passes the limit of events
  pub current_next : check_answer (with_bits 0xF0 0xC0) ≡ refused_with 22 0
  pub skipped_segment : check_answer (section 0x50 0 16 0 0x50 [] ++ section 0x50 16 16 16 0x50 []) ≡ refused_with 23 18
  pub other_segment : check_answer (section 0x50 0 0 0 0x50 (event_at 1 0x03 0x00)) ≡ refused_with 24 0
  pub same_id_apart :
      check_answer (section 0x50 0 8 0 0x50 (event_at 1 0x00 0x00) ++ section 0x50 8 8 8 0x50 (event_at 1 0x03 0x00))
      ≡ refused_with 24 30
  pub broken_behind_limit :
      check_file (record { section_limit = 4_096; event_limit = 1 }) 49_273
      (section 0x50 0 8 0 0x50 (event_at 1 0x00 0x00 ++ event_at 2 0x00 0x30 ++ event_at 1 0x00 0x59))
      ≡ refused_with 24 0
  -- 02, W-204: an event that starts when the one before it ends, two segments before, and one that starts a second
  -- earlier: charged to the later section
  pub touching : check_answer (six_hours 0x00) ≡ accepted_with 2
  pub overlap : check_answer (six_hours 0x01) ≡ refused_with 24 48
  -- a record buffer that is one number short stays
  pub buffer_short :
      read broadcast 49_273 (with_event start_at_one one_hour no_descriptors) (7 ∷ 7 ∷ 7 ∷ 7 ∷ 7 ∷ [])
      ≡ record { answer = refused_with 27 1; buffer = 7 ∷ 7 ∷ 7 ∷ 7 ∷ 7 ∷ [] }
