-- What the contracts of this crate say beyond the model's definitions.
pub mod Commands  -- forms, UNDOs and commands as the model has them; the commands from an offset on
pub mod Places  -- UNDOs and live edits by their places, and the passes that find them
pub mod Examples  -- the commands of a short script, computed
