-- What is computed, as tables of equations.
pub mod SampleLists  -- long chains, and lists that are computed with
pub mod SampleCalls  -- and what is asked of them
pub mod Samples  -- the samples marked P
pub mod Limits  -- Build and Plan at broadcast's limits
pub mod ForbiddenTag  -- what each call says of descriptor tag 0xFF
pub mod Overlapping  -- what each call says of events that overlap
pub mod Cable  -- the numbers of W-206 at cable's sizes
pub mod VersionRows  -- Rebuild at the callers' sizes
