-- records that stay and start earlier, and lists that hold fewer records
pub mod Records
-- a roll case by case, and that it keeps a list sound
pub mod Roll
-- n rolls
pub mod Rolls
-- the event bytes of the k-th section of a segment of Build's file
pub mod KthSection
-- the events of a segment after a roll
pub mod Shifted
-- what W-205 claims
pub mod Midnight
-- the examples, computed
pub mod Examples
