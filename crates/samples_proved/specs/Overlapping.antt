-- What each call says of two events that overlap by a second (02, W-204), beside two that touch. The value is in
-- proofs/Overlapping.antt. Assumes nothing.
use Rattle.std.specs.Prelude.{ℕ, ◌≡◌, List, [], ◌∷◌, ◌++◌, replicate}
use Rattle.eit.specs.Sizes.{broadcast}
use Rattle.eit.specs.Records.{EventList}
use Rattle.script.specs.Edit.{Edited, edit}
use Rattle.sections.specs.Files.{three_hours}
use Rattle.sections.specs.FileAnswers.{check_answer, accepted_with, refused_with}
use Rattle.sections.specs.Read.{read}
use Rattle.schedule.specs.ExampleLists.{Case}
use Rattle.schedule.specs.ExampleCalls.{padded}
use Rattle.samples_proved.specs.SampleCalls.{build_of, plan_of}

-- event 1 at 00:00:00 with a duration, and event 2, of a second, at 03:00:00; `three_hours` is their file
abbrev pub listed : ℕ → Case
listed duration =
    record {
      pools = record { day = []; series = [] };
      list = record { buffer = 1 ∷ 0 ∷ duration ∷ 0 ∷ 0 ∷ 0 ∷ 2 ∷ 10_800 ∷ 1 ∷ 0 ∷ 0 ∷ 0 ∷ []; count = 2 };
    }

-- events 1 and 2, both of 256 seconds and without descriptors: event 1 at a start, event 2 at 1,024; and what else is
-- in the buffer
abbrev pub two_and : ℕ → List ℕ → EventList
two_and start rest =
    record { buffer = 1 ∷ start ∷ 256 ∷ 0 ∷ 0 ∷ 0 ∷ 2 ∷ 1_024 ∷ 256 ∷ 0 ∷ 0 ∷ 0 ∷ [] ++ rest; count = 2 }

-- on those two, and six numbers or none, MOVE 1 from 512 to 0, then at offset 7 another edit
abbrev pub move_and : List ℕ → List ℕ → Edited
move_and rest act =
    edit broadcast (record { day = []; series = [] }) (two_and 512 rest) (0x03 ∷ 0 ∷ 1 ∷ 0 ∷ 0 ∷ 0 ∷ 0 ∷ [] ++ act)

-- PUT of an event without descriptors: id; two bytes each of start and duration
abbrev pub put : ℕ → ℕ × ℕ → ℕ × ℕ → List ℕ
put id (start, startLow) (duration, duration_low) =
    0x01 ∷ 0 ∷ id ∷ 0 ∷ 0 ∷ start ∷ startLow ∷ 0 ∷ 0 ∷ duration ∷ duration_low ∷ 0 ∷ 0 ∷ 0 ∷ 0 ∷ 0 ∷ 0 ∷ 0 ∷ []

-- MOVE 2: two bytes of its start
abbrev pub move_second : ℕ → ℕ → List ℕ
move_second start startLow = 0x03 ∷ 0 ∷ 2 ∷ 0 ∷ 0 ∷ start ∷ startLow ∷ []

pub record Overlapping : Type 0 where
  -- PUT between the two, from 256 to 1,024: it touches both. A second earlier, or longer: 30 at its offset, and the
  -- edit before it is kept
  pub put_touching :
      move_and (replicate 6 7) (put 3 (1, 0) (3, 0))
      ≡ record {
        number = 0;
        value = 3;
        list =
            record {
              buffer =
                  1 ∷ 0 ∷ 256 ∷ 0 ∷ 0 ∷ 0 ∷ 3 ∷ 256 ∷ 768 ∷ 0 ∷ 0 ∷ 0 ∷ 2 ∷ 1_024 ∷ 256 ∷ 0 ∷ 0 ∷ 0 ∷ [];
              count = 3;
            };
      }
  pub put_early :
      move_and (replicate 6 7) (put 3 (0, 255) (3, 0))
      ≡ record { number = 30; value = 7; list = two_and 0 (replicate 6 7) }
  pub put_long :
      move_and (replicate 6 7) (put 3 (1, 0) (3, 1))
      ≡ record { number = 30; value = 7; list = two_and 0 (replicate 6 7) }
  -- 6 ahead of 30, 30 ahead of 8
  pub put_present :
      move_and (replicate 6 7) (put 2 (1, 0) (3, 1))
      ≡ record { number = 6; value = 7; list = two_and 0 (replicate 6 7) }
  pub put_full : move_and [] (put 3 (1, 0) (3, 1)) ≡ record { number = 30; value = 7; list = two_and 0 [] }
  pub put_full_touching : move_and [] (put 3 (1, 0) (3, 0)) ≡ record { number = 8; value = 7; list = two_and 0 [] }
  -- MOVE of event 2 behind event 1, and a second earlier
  pub move_touching :
      move_and [] (move_second 1 0)
      ≡ record {
        number = 0;
        value = 2;
        list = record { buffer = 1 ∷ 0 ∷ 256 ∷ 0 ∷ 0 ∷ 0 ∷ 2 ∷ 256 ∷ 256 ∷ 0 ∷ 0 ∷ 0 ∷ []; count = 2 };
      }
  pub move_early : move_and [] (move_second 0 255) ≡ record { number = 30; value = 7; list = two_and 0 [] }
  -- a list with overlap is unsound: 12 from Edit, also of an event's WITHDRAW, and from Build; Plan has 254
  pub edit_refused :
      edit broadcast (listed 10_801).pools (listed 10_801).list (0x02 ∷ 0 ∷ 2 ∷ [])
      ≡ record { number = 12; value = 0; list = (listed 10_801).list }
  pub edit_touching :
      edit broadcast (listed 10_800).pools (listed 10_800).list (0x02 ∷ 0 ∷ 2 ∷ [])
      ≡ record {
        number = 0;
        value = 1;
        list = record { buffer = 1 ∷ 0 ∷ 10_800 ∷ 0 ∷ 0 ∷ 0 ∷ 0 ∷ 0 ∷ 0 ∷ 0 ∷ 0 ∷ 0 ∷ []; count = 1 };
      }
  pub build_refused :
      build_of (listed 10_801) 49_273 0 (replicate 60 0xAA)
      ≡ record { number = 12; value = 0; output = replicate 60 0xAA }
  pub build_touching :
      build_of (listed 10_800) 49_273 0 (replicate 60 0xAA) ≡ record { number = 0; value = 60; output = three_hours 0x00 }
  pub plan_refused : plan_of (listed 10_801) ≡ replicate 16 (replicate 32 254)
  pub plan_touching : plan_of (listed 10_800) ≡ padded ((1 ∷ 1 ∷ []) ∷ [])
  -- a file with it: 24 at the later event's section, from check and from Read
  pub check_refused : check_answer (three_hours 0x01) ≡ refused_with 24 30
  pub check_touching : check_answer (three_hours 0x00) ≡ accepted_with 2
  pub read_refused :
      read broadcast 49_273 (three_hours 0x01) (replicate 12 7)
      ≡ record { answer = refused_with 24 30; buffer = replicate 12 7 }
  pub read_touching :
      read broadcast 49_273 (three_hours 0x00) (replicate 12 7)
      ≡ record {
        answer = accepted_with 2;
        buffer = 1 ∷ 0 ∷ 10_800 ∷ 0 ∷ 26 ∷ 0 ∷ 2 ∷ 10_800 ∷ 1 ∷ 0 ∷ 56 ∷ 0 ∷ [];
      }
