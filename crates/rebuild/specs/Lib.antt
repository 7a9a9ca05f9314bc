-- What the contracts of this crate say beyond the model's definitions.
pub mod Outcome  -- the paper's number and value for each case of Rebuild's answer
pub mod Tables  -- the tables of a file one after the other, and their next versions by their bytes
