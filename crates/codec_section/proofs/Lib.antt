-- Laws of this crate's definitions, and the proofs of its functions.
-- an event's bytes, field by field
pub mod EventWriteLaws
-- the event that bytes show, as it is read
pub mod EventReadLaws
-- a header's bytes, part by part
pub mod HeaderLaws
