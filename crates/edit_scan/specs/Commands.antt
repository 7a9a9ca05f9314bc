-- The model's value for each case of a script's form, of its UNDOs and of a command; the commands from an offset on,
-- and the offset behind some of them (01, "Edit"). Laws: proofs/CommandLaws.antt, PartLaws.antt. Assumes nothing.
use Rattle.std.specs.Prelude.{ℕ, zero, suc, ◌+◌, Bool, true, false, ◌&&◌, List, [], ◌∷◌, ltb, length, get_or, drop}
use Rattle.std.specs.Prelude.{Option, None, Some, Result, Ok, Err}
use Rattle.script.specs.Form as model
use Rattle.script.specs.Form.{put, withdraw, move, do_edit, undo, operand_bytes, command_of, is_whole, commands, broken}
use Rattle.script.specs.Struck.{Unstruck, unstruck, nothing_at, unstruck_in}
use Rattle.edit_scan.specs.declared.command.Command.{Command}
use Rattle.edit_scan.specs.declared.command.Command.TheVariants.{Put, Withdraw, Move, Undo}
use Rattle.edit_scan.specs.declared.scan.ScriptError.{ScriptError}
use Rattle.edit_scan.specs.declared.scan.ScriptError.TheVariants.{Broken, NothingToUndo}

-- 3 over the script: its form, and of the commands how many they are
abbrev pub form_found : model.Form → Result ℕ ScriptError
form_found (commands cs) = Ok (length cs)
form_found (broken at) = Err (Broken at)

-- 3 and 4 over the script: k commands if each UNDO has something to strike
abbrev pub strikes_found : ℕ → Unstruck → Result ℕ ScriptError
strikes_found k (unstruck es) = Ok k
strikes_found k (nothing_at at) = Err (NothingToUndo at)

-- 3, or 4 at an UNDO
abbrev pub nothing_found : ℕ → model.Form → ScriptError
nothing_found undo-at (broken at) = Broken at
nothing_found undo-at (commands cs) = NothingToUndo undo-at

-- 3 comes before 4
abbrev pub scan_found : model.Form → Result ℕ ScriptError
scan_found (broken at) = Err (Broken at)
scan_found (commands cs) = strikes_found (length cs) (unstruck_in cs)

-- a command whose byte stands at the offset `at`
abbrev pub model_command : ℕ → Command → model.Command
model_command at (Put r) = do_edit (record { at = at; act = put r })
model_command at (Withdraw id) = do_edit (record { at = at; act = withdraw id })
model_command at (Move id start) = do_edit (record { at = at; act = move id start })
model_command at Undo = undo at

-- a known command stands at the offset `at` with its operands
abbrev pub is_whole_at : ℕ → List ℕ → Bool
is_whole_at at script = ltb at (length script) && is_whole (get_or script at 0) (drop (suc at) script)

-- the code of the whole command at the offset `at`, if one stands there
abbrev pub whole_code_at : ℕ → List ℕ → Option ℕ
whole_code_at at script = elim (is_whole_at at script) [ true ↦ Some (get_or script at 0) | false ↦ None ]

-- the whole commands of the rest of a script from the offset `at` on, up to the first that is broken; the first `skip`
-- bytes are operands of a command that has begun
abbrev pub whole_from : ℕ → ℕ → List ℕ → List model.Command
whole_from zero at [] = []
-- never met: a truncated operand is not begun
whole_from (suc skip) at [] = []
whole_from (suc skip) at (b ∷ bs) = whole_from skip (suc at) bs
whole_from zero at (code ∷ bs) =
    elim (is_whole code bs) [
      | true ↦ command_of code at bs ∷ whole_from (operand_bytes code) (suc at) bs
      | false ↦ []
    ]

-- the whole commands of a script from the offset `at` on; none if `at` lies beyond it
unfoldable pub commands_at : ℕ → List ℕ → List model.Command
commands_at at script = whole_from 0 at (drop at script)

-- the offset behind k whole commands from the offset `at` on, or behind as many as there are
unfoldable pub offset_behind : ℕ → ℕ → List ℕ → ℕ
offset_behind zero at script = at
offset_behind (suc k) at script =
    elim (is_whole_at at script) [
      | true ↦ offset_behind k (at + (1 + operand_bytes (get_or script at 0))) script
      | false ↦ at
    ]
