-- Laws of this crate's definitions, and the proofs of its functions.
-- what the tables hold
pub mod TableLaws
-- CRC_32 by the tables, byte after byte of a block and block after block
pub mod BlockLaws
