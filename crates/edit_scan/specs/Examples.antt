-- The commands from an offset on, the offset behind some of them, and the places of UNDOs and of live edits, computed
-- from raw bytes (01, "Edit"). The value is in proofs/Examples.antt. Assumes nothing.
use Rattle.std.specs.Prelude.{ℕ, ◌≡◌, List, [], ◌∷◌}
use Rattle.script.specs.Form.{withdraw, move, do_edit, undo}
use Rattle.edit_scan.specs.Commands.{commands_at, offset_behind}
use Rattle.edit_scan.specs.Places.{undos_noted, striking_noted, live_marked}

-- WITHDRAW of id 7, an UNDO, and MOVE of id 7 to start 9
abbrev pub script : List ℕ
script = 0x02 ∷ 0 ∷ 7 ∷ 0x04 ∷ 0x03 ∷ 0 ∷ 7 ∷ 0 ∷ 0 ∷ 0 ∷ 9 ∷ []

pub record Examples : Type 0 where
  -- each command with the offset of its own byte
  pub from_start : commands_at 0 script
      ≡ do_edit (record { at = 0; act = withdraw 7 }) ∷ undo 3 ∷ do_edit (record { at = 4; act = move 7 9 }) ∷ []
  -- from the UNDO on, and behind it
  pub from_undo : commands_at 3 script ≡ undo 3 ∷ do_edit (record { at = 4; act = move 7 9 }) ∷ []
  pub behind_two : offset_behind 2 0 script ≡ 4
  -- the UNDO at place 1 is noted, whatever the set held, and then the MOVE at place 2 is live
  pub undo_noted : undos_noted (0xFD ∷ []) 0 (commands_at 0 script) ≡ 0xFA ∷ []
  pub move_live : live_marked (0xFA ∷ []) 0 3 ≡ 0xFC ∷ []
  -- from the UNDO on there is nothing to strike
  pub nothing_noted : striking_noted 0 (0xFD ∷ []) 0 (commands_at 3 script) ≡ 0xFD ∷ []
