-- The paper's number and value for each case of Build's answer (01, "When a call says no"). Assumes nothing.
use Rattle.std.specs.Prelude.{ℕ, List, Result}
use Rattle.schedule.specs.Build.{Built}
use Rattle.refusal.specs.Numbers.{number_of, value_of}
use Rattle.build_answer.specs.declared.BuildError.{BuildError}
use Rattle.build_answer.specs.declared.BuildError.TheVariants.{BaseDay, Version, Unsound, Unpackable, OutputShort}

-- Build's refusals and their numbers
abbrev pub error_number : BuildError → ℕ
error_number BaseDay = 1
error_number Version = 2
error_number Unsound = 12
error_number (Unpackable index) = 10
error_number (OutputShort need) = 11

-- what is returned with each
abbrev pub error_value : BuildError → ℕ
error_value BaseDay = 0
error_value Version = 0
error_value Unsound = 0
error_value (Unpackable index) = index
error_value (OutputShort need) = need

-- the answer and the output as Build's definition has them; success is the file's length
abbrev pub outcome_of : Result ℕ BuildError → List ℕ → Built
outcome_of r output =
    record { number = number_of error_number r; value = value_of error_value r; output = output }
