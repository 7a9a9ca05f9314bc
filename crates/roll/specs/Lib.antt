-- What the contracts of this crate say beyond the model's definitions.
pub mod Outcome  -- 02's number and value for each case of a roll's answer
