-- The papers' number and value for each case of Edit's answer (01, "When a call says no"; 02, W-204: 30). Assumes
-- nothing.
use Rattle.std.specs.Prelude.{ℕ, List, Result, Ok, Err}
use Rattle.eit.specs.Records.{lent_list}
use Rattle.refusal.specs.Numbers.{number_of}
use Rattle.script.specs.Edit as model
use Rattle.edit_scan.specs.declared.scan.ScriptError.TheVariants.{Broken, NothingToUndo}
use Rattle.edit_answer.specs.declared.EditError.{EditError}
use Rattle.edit_answer.specs.declared.EditError.TheVariants.{Unsound, Script, OutOfRange, WrongId, ListFull}
use Rattle.edit_answer.specs.declared.EditError.TheVariants.{NoChain, Overlap}

-- Edit's refusals and their numbers
abbrev pub error_number : EditError → ℕ
error_number Unsound = 12
error_number (Script (Broken at)) = 3
error_number (Script (NothingToUndo at)) = 4
error_number (OutOfRange at) = 5
error_number (WrongId at) = 6
error_number (ListFull at) = 8
error_number (NoChain at) = 9
error_number (Overlap at) = 30

-- what is returned with each: its offset, 0 for 12
abbrev pub error_value : EditError → ℕ
error_value Unsound = 0
error_value (Script (Broken at)) = at
error_value (Script (NothingToUndo at)) = at
error_value (OutOfRange at) = at
error_value (WrongId at) = at
error_value (ListFull at) = at
error_value (NoChain at) = at
error_value (Overlap at) = at

-- on success the new count
abbrev pub outcome_value : ℕ → Result Unit EditError → ℕ
outcome_value count (Ok _) = count
outcome_value count (Err error) = error_value error

-- the outcome, the count then held and the buffer as Edit's definition has them
abbrev pub outcome_of : Result Unit EditError → ℕ → List ℕ → model.Edited
outcome_of outcome count buffer =
    record {
      number = number_of error_number outcome;
      value = outcome_value count outcome;
      list = lent_list buffer count;
    }
