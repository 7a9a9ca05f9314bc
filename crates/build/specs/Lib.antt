-- What the contracts of this crate say beyond the model's definitions.
pub mod Sections  -- sections with the next events that fit, one after the other
pub mod Rows  -- the last section of a table, by its segments' section counts
pub mod Writing  -- what Build has found out before it writes
pub mod Held  -- the events that a writer of sections holds
