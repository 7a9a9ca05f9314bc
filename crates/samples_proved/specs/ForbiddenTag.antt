-- What each call says of descriptor tag 0xFF (02, W-202), beside tag 0xFE in the same bytes. Chains alone are among the
-- examples of crate eit. The value is in proofs/ForbiddenTag.antt. Assumes nothing.
use Rattle.std.specs.Prelude.{ℕ, ◌≡◌, List, [], ◌∷◌, ◌++◌, replicate}
use Rattle.eit.specs.Sizes.{broadcast}
use Rattle.eit.specs.Pools.{Pools}
use Rattle.eit.specs.Records.{EventList}
use Rattle.script.specs.Edit.{Edited, edit}
use Rattle.sections.specs.Files.{section}
use Rattle.sections.specs.FileAnswers.{check_answer, accepted_with, refused_with}
use Rattle.sections.specs.Read.{read}
use Rattle.schedule.specs.ExampleLists.{Case}
use Rattle.schedule.specs.ExampleCalls.{padded}
use Rattle.samples_proved.specs.SampleCalls.{build_of, plan_of}

-- a descriptor, one with the given tag that has 0xFF inside, and a third
abbrev pub descriptors : ℕ → List ℕ
descriptors tag = 0x4D ∷ 0x01 ∷ 0x09 ∷ tag ∷ 0x01 ∷ 0xFF ∷ 0x4E ∷ 0x00 ∷ []

abbrev pub pools : ℕ → Pools
pools tag = record { day = descriptors tag; series = [] }

-- an event of a second at 03:00:00 with those descriptors
abbrev pub listed : ℕ → Case
listed tag = record { pools = pools tag; list = record { buffer = 1 ∷ 10_800 ∷ 1 ∷ 0 ∷ 0 ∷ 8 ∷ []; count = 1 } }

-- its file: an empty segment, then the event's section at offset 18
abbrev pub file : ℕ → List ℕ
file tag =
    section 0x50 0 8 0 0x50 []
    ++ section 0x50 8 8 8 0x50
    (0x00 ∷ 0x01 ∷ 0xC0 ∷ 0x79 ∷ 0x03 ∷ 0x00 ∷ 0x00 ∷ 0x00 ∷ 0x00 ∷ 0x01 ∷ 0x00 ∷ 0x08 ∷ descriptors tag)

-- a list with event 1, which has no descriptors, at a start, and room for a second
abbrev pub list_at : ℕ → EventList
list_at start = record { buffer = 1 ∷ start ∷ 1 ∷ 0 ∷ 0 ∷ 0 ∷ 7 ∷ 7 ∷ 7 ∷ 7 ∷ 7 ∷ 7 ∷ []; count = 1 }

-- MOVE 1 to 256, then at offset 7 PUT of an id with those descriptors, at 512
abbrev pub move_and_put : ℕ → ℕ → Edited
move_and_put tag id =
    edit broadcast (pools tag) (list_at 0)
    (0x03 ∷ 0 ∷ 1 ∷ 0 ∷ 0 ∷ 1 ∷ 0 ∷ 0x01 ∷ 0 ∷ id ∷ 0 ∷ 0 ∷ 2 ∷ 0 ∷ 0 ∷ 0 ∷ 0 ∷ 1 ∷ 0 ∷ 0 ∷ 0 ∷ 0 ∷ 0 ∷ 0 ∷ 8 ∷ [])

pub record ForbiddenTag : Type 0 where
  -- PUT: 9 at its offset, ahead of 6, and the edit before it is kept
  pub put_refused : move_and_put 0xFF 2 ≡ record { number = 9; value = 7; list = list_at 256 }
  pub put_present : move_and_put 0xFF 1 ≡ record { number = 9; value = 7; list = list_at 256 }
  pub put_present_allowed : move_and_put 0xFE 1 ≡ record { number = 6; value = 7; list = list_at 256 }
  pub put_allowed :
      move_and_put 0xFE 2
      ≡ record {
        number = 0;
        value = 2;
        list = record { buffer = 1 ∷ 256 ∷ 1 ∷ 0 ∷ 0 ∷ 0 ∷ 2 ∷ 512 ∷ 1 ∷ 0 ∷ 0 ∷ 8 ∷ []; count = 2 };
      }
  -- a list with it is unsound: 12 from Edit, also of the event's WITHDRAW, and from Build; Plan has 254
  pub edit_refused :
      edit broadcast (pools 0xFF) (listed 0xFF).list (0x02 ∷ 0 ∷ 1 ∷ [])
      ≡ record { number = 12; value = 0; list = (listed 0xFF).list }
  pub edit_allowed :
      edit broadcast (pools 0xFE) (listed 0xFE).list (0x02 ∷ 0 ∷ 1 ∷ [])
      ≡ record { number = 0; value = 0; list = record { buffer = replicate 6 0; count = 0 } }
  pub build_refused :
      build_of (listed 0xFF) 49_273 0 (replicate 56 0xAA) ≡ record { number = 12; value = 0; output = replicate 56 0xAA }
  pub build_allowed :
      build_of (listed 0xFE) 49_273 0 (replicate 56 0xAA) ≡ record { number = 0; value = 56; output = file 0xFE }
  pub plan_refused : plan_of (listed 0xFF) ≡ replicate 16 (replicate 32 254)
  pub plan_allowed : plan_of (listed 0xFE) ≡ padded ((1 ∷ 1 ∷ []) ∷ [])
  -- a file with it: 24 at its section, from check and from Read
  pub check_refused : check_answer (file 0xFF) ≡ refused_with 24 18
  pub check_allowed : check_answer (file 0xFE) ≡ accepted_with 1
  pub read_refused :
      read broadcast 49_273 (file 0xFF) (replicate 6 7) ≡ record { answer = refused_with 24 18; buffer = replicate 6 7 }
  pub read_allowed :
      read broadcast 49_273 (file 0xFE) (replicate 6 7)
      ≡ record { answer = accepted_with 1; buffer = 1 ∷ 10_800 ∷ 1 ∷ 0 ∷ 44 ∷ 8 ∷ [] }
