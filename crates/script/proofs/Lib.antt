-- a script has the form of some commands exactly if it is their bytes
pub mod Form
-- UNDO strikes the nearest edit, over joined scripts and from the right
pub mod Struck
-- inserting a record and taking one away keep what soundness asks
pub mod Placing
-- and what they move
pub mod Places
-- which number an edit is refused with, and when it is done
pub mod Steps
-- one edit: what it has passed, and that it keeps a list sound
pub mod Machine
-- MOVE onto its own start
pub mod OwnStart
-- Edit by any machine: its run, and its refusals
pub mod EditBy
-- Edit: its run, its refusals, and that it keeps a list sound
pub mod Edit
-- events that overlap: what document 02 claims
pub mod NoOverlap
-- an equal start is an overlap: what document 02 claims
pub mod EqualStart
-- joined scripts: their form, what UNDO strikes, their run
pub mod Joined
-- two withdrawals in either order
pub mod Withdrawals
-- what document 02 claims of joined scripts
pub mod JoinedScripts
-- PUT and WITHDRAW as one write from the record's place on, MOVE as both
pub mod Writes
-- the other numbers that an edit does not touch
pub mod Frame
-- the examples, computed
pub mod Examples
pub mod OverlapExamples
