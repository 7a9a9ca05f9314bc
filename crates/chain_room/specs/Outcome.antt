-- 02's number of the refusal, and the call's outcome as the definition has it (W-201). Assumes nothing.
use Rattle.std.specs.Prelude.{ℕ, Option, Some, None, Result, Ok, Err}
use Rattle.room.specs.ChainRoom.{ChainRoom}
use Rattle.chain_room.specs.declared.RoomError.{RoomError}
use Rattle.chain_room.specs.declared.RoomError.TheVariants.{Unsound}

abbrev pub error_number : RoomError → ℕ
error_number Unsound = 12

-- it returns no value
abbrev pub error_value : RoomError → ℕ
error_value Unsound = 0

-- the number, and the length if one is given
abbrev pub outcome_of : Result (Option ℕ) RoomError → ChainRoom
outcome_of (Ok given) = record { number = 0; given = given }
outcome_of (Err refused) = record { number = error_number refused; given = None }

-- as numbers: 1 if a length is given, else 0; and the length, 0 if none is
abbrev pub fits : Option ℕ → ℕ
fits None = 0
fits (Some n) = 1

abbrev pub length_or0 : Option ℕ → ℕ
length_or0 None = 0
length_or0 (Some n) = n
