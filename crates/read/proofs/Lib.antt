-- the records of an event loop, written one behind the other
pub mod FillLaws
-- the records of a file, section after section
pub mod FileLaws
-- every section of an accepted file can be filled in
pub mod FillableLaws
-- what Read says, by what check has said
pub mod AnswerLaws
