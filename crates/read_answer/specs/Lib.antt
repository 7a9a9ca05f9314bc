-- What the contracts of this crate say beyond the model's definitions.
pub mod Outcome  -- the paper's number and values for each case of Read's answer
