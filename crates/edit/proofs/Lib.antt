-- Laws of this crate's definitions, and the proofs of its functions.
-- the machine's run of one edit and of none, and where a refusal ends it
pub mod RunLaws
-- what an edit on an index leaves
pub mod IndexedLaws
-- what a sound list gives an index
pub mod SoundLaws
-- PUT on an index
pub mod PutLaws
-- WITHDRAW on an index
pub mod WithdrawLaws
-- MOVE on an index
pub mod MoveLaws
-- the pass that carries out the live edits
pub mod ForwardLaws
-- the same pass on an index
pub mod IndexRunLaws
-- how many UNDOs pass a part
pub mod PendingLaws
-- a part's live edits, one half after the other
pub mod HalfLaws
-- Edit by the answers of the code's passes
pub mod EditLaws
