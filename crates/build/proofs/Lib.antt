-- Laws of this crate's definitions, and the proofs of its functions.
-- a section written part by part
pub mod SectionLaws
-- the sections of a segment, written one after the other
pub mod SectionsLaws
-- the last section of a table, searched downwards
pub mod RowLaws
-- the sections of a segment and their headers
pub mod PartLaws
-- what the section counts say of the file
pub mod CountsLaws
-- the file written segment by segment
pub mod FileLaws
-- Plan's tables, of their counts joined
pub mod PlanLaws
-- versions looked at one after the other
pub mod VersionsLaws
-- what Build answers, by what it has found out of the list
pub mod AnswerLaws
