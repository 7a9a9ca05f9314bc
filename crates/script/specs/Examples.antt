-- Edit on a list of two events, computed: what each command does, each refusal but 30 (specs/OverlapExamples.antt), and
-- which refusal comes first (01, "Edit", "When a call says no"). The value is in proofs/Examples.antt. Assumes nothing.
use Rattle.std.specs.Prelude.{ℕ, ◌≡◌, List, [], ◌∷◌, ◌++◌, replicate}
use Rattle.eit.specs.Sizes.{broadcast}
use Rattle.eit.specs.Limits.{window_seconds}
use Rattle.eit.specs.Pools.{Pools}
use Rattle.eit.specs.Records.{EventList, numbers_of_all}
use Rattle.eit.specs.declared.Record.{Record}
use Rattle.script.specs.Form.{put, withdraw, move, do_edit, undo, commands, form_of}
use Rattle.script.specs.Encode.{act_bytes}
use Rattle.script.specs.Edit.{Edited, edit}

-- an event of 50 seconds with the part of its pool that begins at 0
abbrev pub event_record : ℕ → ℕ → ℕ → ℕ → Record
event_record id start marks size =
    record { id = id; start = start; duration = 50; marks = marks; offset = 0; chain_length = size }

abbrev pub plain : ℕ → ℕ → Record
plain id start = event_record id start 0 0

abbrev pub lasting : ℕ → ℕ → Record
lasting start duration =
    record { id = 3; start = start; duration = duration; marks = 0; offset = 0; chain_length = 0 }

-- one descriptor, and an empty series pool
abbrev pub pools : Pools
pools = record { day = 0x4D ∷ 1 ∷ 9 ∷ []; series = [] }

-- events 1 and 2 in a buffer with room for three, and between them time for one; the two numbers left over belong to no
-- record
abbrev pub list : ℕ → EventList
list count = record { buffer = numbers_of_all (plain 1 100 ∷ plain 2 200 ∷ []) ++ replicate 8 7; count = count }

abbrev pub undo_byte : List ℕ
undo_byte = 0x04 ∷ []

-- number, value and count of the answer
abbrev pub answer_of : Edited → ℕ × ℕ × ℕ
answer_of o = (o.number, o.value, o.list.count)

abbrev pub result_of : List ℕ → ℕ × ℕ × ℕ
result_of script = answer_of (edit broadcast pools (list 2) script)

abbrev pub left : List ℕ → List ℕ
left script = (edit broadcast pools (list 2) script).list.buffer

pub record Examples : Type 0 where
  -- the form, from raw bytes: 01's own script; then every operand of PUT and of MOVE in its place, and an UNDO between
  -- them
  pub paper_script : form_of (0x01 ∷ 0 ∷ 1 ∷ 0 ∷ 0 ∷ 0xB3 ∷ 0x4C ∷ 0 ∷ 0 ∷ 0x18 ∷ 0xBA ∷ 0 ∷ 0 ∷ 0 ∷ 0 ∷ 0 ∷ 0 ∷ 0 ∷ [])
      ≡ commands
      (do_edit (record {
        at = 0;
        act = put (record { id = 1; start = 45_900; duration = 6_330; marks = 0; offset = 0; chain_length = 0 });
      })
      ∷ [])
  pub operands : form_of
      (0x01 ∷ 1 ∷ 2 ∷ 0 ∷ 0 ∷ 3 ∷ 4 ∷ 0 ∷ 0 ∷ 5 ∷ 6 ∷ 7 ∷ 0 ∷ 0 ∷ 8 ∷ 9 ∷ 10 ∷ 11 ∷ 0x04 ∷ 0x03 ∷ 1 ∷ 2 ∷ 0 ∷ 0 ∷ 3 ∷ 4
      ∷ [])
      ≡ commands
      (do_edit (record {
        at = 0;
        act = put (record {
          id = 258;
          start = 772;
          duration = 1_286;
          marks = 7;
          offset = 2_057;
          chain_length = 2_571;
        });
      })
      ∷ undo 18 ∷ do_edit (record { at = 19; act = move 258 772 }) ∷ [])
  pub withdraw_operand : form_of (0x02 ∷ 1 ∷ 2 ∷ []) ≡ commands (do_edit (record { at = 0; act = withdraw 258 }) ∷ [])
  -- what each command does
  pub put_between : left (act_bytes (put (plain 3 150)))
      ≡ numbers_of_all (plain 1 100 ∷ plain 3 150 ∷ plain 2 200 ∷ []) ++ (7 ∷ 7 ∷ [])
  pub withdraw_frees : left (act_bytes (withdraw 1)) ≡ numbers_of_all (plain 2 200 ∷ []) ++ replicate 6 0 ++ replicate 8 7
  pub move_re_places : left (act_bytes (move 1 300)) ≡ numbers_of_all (plain 2 200 ∷ plain 1 300 ∷ []) ++ replicate 8 7
  pub move_to_front : left (act_bytes (move 2 50)) ≡ numbers_of_all (plain 2 50 ∷ plain 1 100 ∷ []) ++ replicate 8 7
  -- MOVE changes nothing but the start
  pub move_keeps :
      left (act_bytes (put (event_record 3 150 5 3)) ++ act_bytes (move 3 300))
      ≡ numbers_of_all (plain 1 100 ∷ plain 2 200 ∷ event_record 3 300 5 3 ∷ []) ++ (7 ∷ 7 ∷ [])
  pub one_more : result_of (act_bytes (put (plain 3 150))) ≡ (0, 3, 3)
  pub one_less : result_of (act_bytes (withdraw 1)) ≡ (0, 1, 1)
  pub as_many : result_of (act_bytes (move 1 300)) ≡ (0, 2, 2)
  pub own_start : result_of (act_bytes (move 1 100)) ≡ (0, 2, 2)
  pub id_zero : result_of (act_bytes (put (plain 0 150)) ++ act_bytes (withdraw 0)) ≡ (0, 2, 2)
  pub descriptors : result_of (act_bytes (put (event_record 3 150 0 3))) ≡ (0, 3, 3)
  -- struck edits are not carried out, and leave no zeros behind
  pub undone : left (act_bytes (put (plain 3 150)) ++ act_bytes (withdraw 1) ++ undo_byte ++ undo_byte) ≡ (list 2).buffer
  pub nearest_struck :
      left (act_bytes (withdraw 1) ++ act_bytes (withdraw 2) ++ undo_byte)
      ≡ numbers_of_all (plain 2 200 ∷ []) ++ replicate 6 0 ++ replicate 8 7
  pub struck_for_form_only : result_of (act_bytes (put (event_record 3 150 8 0)) ++ undo_byte) ≡ (0, 2, 2)
  -- 12, 3 and 4 over the whole script, before any edit
  pub unsound : edit broadcast pools (list 4) (0x05 ∷ []) ≡ record { number = 12; value = 0; list = list 4 }
  pub unknown : result_of (act_bytes (withdraw 1) ++ (0x05 ∷ [])) ≡ (3, 3, 2)
  pub truncated : result_of (0x03 ∷ 0 ∷ 1 ∷ []) ≡ (3, 0, 2)
  pub form_first : result_of (undo_byte ++ (0x05 ∷ [])) ≡ (3, 1, 2)
  pub undo_alone : result_of undo_byte ≡ (4, 0, 2)
  pub nothing_to_strike : result_of (act_bytes (withdraw 1) ++ undo_byte ++ undo_byte) ≡ (4, 4, 2)
  -- per edit: PUT
  pub start_most : result_of (act_bytes (put (plain 3 5_529_599))) ≡ (0, 3, 3)
  pub start_above : result_of (act_bytes (put (plain 3 5_529_600))) ≡ (5, 0, 2)
  pub duration_most : result_of (act_bytes (put (lasting 250 359_999))) ≡ (0, 3, 3)
  pub duration_above : result_of (act_bytes (put (lasting 250 360_000))) ≡ (5, 0, 2)
  pub no_duration : result_of (act_bytes (put (lasting 250 0))) ≡ (5, 0, 2)
  pub marks_above : result_of (act_bytes (put (event_record 3 150 8 0))) ≡ (5, 0, 2)
  pub range_first : result_of (act_bytes (put (event_record 1 window_seconds 0 4))) ≡ (5, 0, 2)
  pub outside : result_of (act_bytes (put (event_record 1 200 0 4))) ≡ (9, 0, 2)
  pub no_chain : result_of (act_bytes (put (event_record 3 150 0 2))) ≡ (9, 0, 2)
  pub other_pool : result_of (act_bytes (put (event_record 3 150 2 3))) ≡ (9, 0, 2)
  pub present : result_of (act_bytes (put (plain 1 200))) ≡ (6, 0, 2)
  pub full : result_of (act_bytes (put (plain 3 300)) ++ act_bytes (put (plain 4 400))) ≡ (8, 18, 3)
  pub at_event_limit :
      (edit (record { section_limit = 4096; event_limit = 2 }) pools (list 2) (act_bytes (put (plain 3 150)))).number
      ≡ 8
  pub below_event_limit :
      (edit (record { section_limit = 4096; event_limit = 3 }) pools (list 2) (act_bytes (put (plain 3 150)))).number
      ≡ 0
  -- WITHDRAW and MOVE
  pub absent : result_of (act_bytes (withdraw 9)) ≡ (6, 0, 2)
  pub keeps_the_earlier : left (act_bytes (withdraw 1) ++ act_bytes (withdraw 1))
      ≡ numbers_of_all (plain 2 200 ∷ []) ++ replicate 6 0 ++ replicate 8 7
  pub moved_late : result_of (act_bytes (move 9 window_seconds)) ≡ (5, 0, 2)
  pub moved_absent : result_of (act_bytes (move 9 200)) ≡ (6, 0, 2)
  pub moved_when_full : result_of (act_bytes (put (plain 3 300)) ++ act_bytes (move 3 400)) ≡ (0, 3, 3)
