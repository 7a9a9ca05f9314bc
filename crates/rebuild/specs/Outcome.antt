-- The paper's number and value for each case of Rebuild's answer (02, W-208: "its refusal number and offset are
-- returned if Read refuses it .. Build's refusals follow"). Assumes nothing.
use Rattle.std.specs.Prelude.{ℕ, List, Result}
use Rattle.schedule.specs.Build.{Built}
use Rattle.refusal.specs.Numbers.{number_of, value_of}
use Rattle.read_answer.specs.Outcome as read
use Rattle.build_answer.specs.Outcome as build
use Rattle.rebuild.specs.declared.RebuildError.{RebuildError}
use Rattle.rebuild.specs.declared.RebuildError.TheVariants.{Previous, Build}

-- Read's refusals of the previous file, and Build's
abbrev pub error_number : RebuildError → ℕ
error_number (Previous error) = read.error_number error
error_number (Build error) = build.error_number error

-- what is returned with each
abbrev pub error_value : RebuildError → ℕ
error_value (Previous error) = read.error_value error
error_value (Build error) = build.error_value error

-- the answer and the output as Rebuild's definition has them; success is the file's length
abbrev pub outcome_of : Result ℕ RebuildError → List ℕ → Built
outcome_of r output =
    record { number = number_of error_number r; value = value_of error_value r; output = output }
