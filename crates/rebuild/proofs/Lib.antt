-- Laws of this crate's definitions, and the proofs of its functions.
-- where a table's sections end, and tables in their order
pub mod LeadingLaws
-- two parts compared byte by byte
-- the tables of two files compared one after the other
pub mod NextLaws
-- the tables of files that keep the rules
pub mod FileLaws
-- what Rebuild answers, by what it has found
pub mod AnswerLaws
