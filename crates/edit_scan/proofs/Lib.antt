-- Laws of this crate's definitions, and the proofs of its functions.
-- the commands from an offset on, one by one
pub mod CommandLaws
-- a command's operands, as they are read
pub mod OperandLaws
-- parts of a script, counted in commands
pub mod PartLaws
-- the commands of a part by their places
pub mod StandLaws
-- sets of places
pub mod PlaceLaws
-- the places of UNDOs, as a pass notes them
pub mod NotedLaws
-- live edits by their places
pub mod LiveLaws
-- what the pass over a script counts
pub mod StrikeLaws
-- what its answer says of the script
pub mod ScanLaws
-- the examples, computed
pub mod Examples
