-- What the contracts of this crate say beyond the model's definitions.
pub mod Run  -- what the machine carries out
pub mod Indexed  -- what an edit asks of an index, and what it leaves
