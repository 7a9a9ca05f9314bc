-- Laws of this crate's definitions, and the proofs of its functions.
-- what one pass over the records asks is what soundness asks of them
pub mod ForwardLaws
-- that pass, with the ids in a set of bits, record by record
pub mod PassLaws
