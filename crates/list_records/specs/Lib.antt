-- What the contracts of this crate say beyond the model's definitions.
pub mod Written  -- a record written in its place
