-- 02's number and value of a roll's refusals, and its outcome as the definition has it (W-205). Assumes nothing.
use Rattle.std.specs.Prelude.{ℕ, List, Result, Ok, Err}
use Rattle.eit.specs.Records.{lent_list}
use Rattle.window.specs.Roll as model
use Rattle.roll.specs.declared.RollError.{RollError}
use Rattle.roll.specs.declared.RollError.TheVariants.{LastBaseDay, Unsound}
use Rattle.roll.specs.declared.Rolled.{Rolled}

abbrev pub error_number : RollError → ℕ
error_number LastBaseDay = 31
error_number Unsound = 12

-- a refusal returns none
abbrev pub error_value : RollError → ℕ
error_value LastBaseDay = 0
error_value Unsound = 0

-- the outcome, the list and the base day as the definition of a roll has them: success returns the new count, and a
-- refusal leaves the count and the base day that were given
abbrev pub outcome_of : ℕ → ℕ → Result Rolled RollError → List ℕ → model.Rolled
outcome_of count base (Ok rolled) buffer =
    record { number = 0; value = rolled.count; list = lent_list buffer rolled.count; base = rolled.base_day }
outcome_of count base (Err refused) buffer =
    record {
      number = error_number refused;
      value = error_value refused;
      list = lent_list buffer count;
      base = base;
    }
