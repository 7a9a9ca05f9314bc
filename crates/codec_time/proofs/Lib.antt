-- Laws of this crate's definitions, and the proofs of its functions.
-- the times that bytes show, as they are read
pub mod TimeReadLaws
