-- What the contracts of this crate say beyond the model's definitions.
pub mod Outcome  -- each case of an answer as the definition has it, and as numbers
pub mod Places  -- where a start stands among events
pub mod Trial  -- whether a chain of some length is held, and how many lengths are
