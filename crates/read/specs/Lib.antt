-- What the contracts of this crate say beyond the model's definitions.
pub mod ReadOutcome  -- the code's result and the record buffer, as Read's definition has them
pub mod Fillable  -- what is known of a section that passed
