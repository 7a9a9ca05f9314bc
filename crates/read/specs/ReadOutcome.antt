-- What the code returns and the record buffer, as Read's definition has them. Assumes nothing.
use Rattle.std.specs.Prelude.{List, ℕ, Result}
use Rattle.sections.specs.Read.{Reading}
use Rattle.read_answer.specs.Outcome.{outcome_of}
use Rattle.read_answer.specs.declared.FileRead.{FileRead}
use Rattle.read_answer.specs.declared.ReadError.{ReadError}

abbrev pub read_outcome : Result FileRead ReadError → List ℕ → Reading
read_outcome r buffer = record { answer = outcome_of r; buffer = buffer }
