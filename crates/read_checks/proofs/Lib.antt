-- the tests of a section's frame, one by one
pub mod FrameLaws
-- CRC_32 over a section by the lent tables
pub mod RightCrcLaws
-- the tests of a section's header, one by one
pub mod HeaderCheckLaws
-- the numbers behind a section, case by case
pub mod NumberingLaws
