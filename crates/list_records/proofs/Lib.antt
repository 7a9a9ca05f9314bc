-- writes into a buffer, and a record written in its place
pub mod WriteLaws
-- the records from a place on
pub mod RestLaws
-- the place of a start among the records, one record at a time
pub mod PlaceLaws
