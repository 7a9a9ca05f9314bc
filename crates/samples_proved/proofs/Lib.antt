-- The tables hold.
-- the samples marked P, computed
pub mod Samples
-- broadcast's limits, computed
pub mod Limits
-- descriptor tag 0xFF, computed
pub mod ForbiddenTag
-- overlap, call by call, computed
pub mod Overlapping
-- cable's sizes, computed
pub mod Cable
-- what the demands speak of is there
pub mod Carried
-- Rebuild at the callers' sizes, computed
pub mod VersionRows
