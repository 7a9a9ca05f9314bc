-- What is computed, as tables of equations.
pub mod Refusals  -- Read's refusals 1 and 20 to 23
pub mod EventRefusals  -- and 24 to 27
pub mod OverlapRefusals  -- 24 for events that overlap
pub mod VersionRefusals  -- 22 for a version that differs within a table
