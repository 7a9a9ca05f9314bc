-- The number and the value of an outcome, by those of its refusals (01, "When a call says no"). Assumes nothing.
use Rattle.std.specs.Prelude.{ℕ, Result, Ok, Err}

-- 0 is success
abbrev pub number_of : {T E : Type 0} → (E → ℕ) → Result T E → ℕ
number_of number_by (Ok _) = 0
number_of number_by (Err refusal) = number_by refusal

-- of success, the number that it holds
abbrev pub value_of : {E : Type 0} → (E → ℕ) → Result ℕ E → ℕ
value_of value_by (Ok value) = value
value_of value_by (Err refusal) = value_by refusal
