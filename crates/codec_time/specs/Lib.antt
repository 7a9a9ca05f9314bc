-- What the contracts of this crate say beyond the model's definitions.
pub mod TimeRead  -- the times that bytes show
