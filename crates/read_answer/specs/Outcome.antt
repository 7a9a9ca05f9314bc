-- The paper's number and values for each case of Read's answer (01, "When a call says no"). Assumes nothing.
use Rattle.std.specs.Prelude.{ℕ, Result, Ok, Err}
use Rattle.sections.specs.Read.{Answer, refusal, success}
use Rattle.read_answer.specs.declared.FileRead.{FileRead}
use Rattle.read_answer.specs.declared.ReadError.{ReadError}
use Rattle.read_answer.specs.declared.ReadError.TheVariants.{
  BaseDay,
  Frame,
  Crc,
  Header,
  Numbering,
  EventLoop,
  EarlyEnd,
  EventLimit,
  RecordsShort,
}

-- Read's refusals and their numbers
abbrev pub error_number : ReadError → ℕ
error_number BaseDay = 1
error_number (Frame offset) = 20
error_number (Crc offset) = 21
error_number (Header offset) = 22
error_number (Numbering offset) = 23
error_number (EventLoop offset) = 24
error_number (EarlyEnd size) = 25
error_number (EventLimit offset) = 26
error_number (RecordsShort events) = 27

-- what is returned with each
abbrev pub error_value : ReadError → ℕ
error_value BaseDay = 0
error_value (Frame offset) = offset
error_value (Crc offset) = offset
error_value (Header offset) = offset
error_value (Numbering offset) = offset
error_value (EventLoop offset) = offset
error_value (EarlyEnd size) = size
error_value (EventLimit offset) = offset
error_value (RecordsShort events) = events

-- the answer as Read's definition has it: an accepted file is success, a refusal has its number and its value
abbrev pub outcome_of : Result FileRead ReadError → Answer
outcome_of (Ok file) = success file.identity file.count
outcome_of (Err refused) = refusal (error_number refused) (error_value refused)
