-- What the contracts of this crate say beyond the model's definitions.
pub mod Outcome  -- the paper's number and value for each case of Build's answer
