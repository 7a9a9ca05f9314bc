-- Laws of Plan's tables, and the proofs of this crate's functions.
-- sixteen tables of thirty-two counts, cell by cell
pub mod TableLaws
