-- What the contracts of this crate say beyond the model's definitions.
pub mod EventRead  -- the event at the front of some bytes
pub mod HeaderRead  -- a header as the code has it, and the header at the front of some bytes
pub mod Versions  -- the versions of all tables, with another one for a table
