-- What the contracts of this crate say beyond the model's definitions.
pub mod RightCrc  -- CRC_32 over a section by lent tables
pub mod HeaderBefore  -- the header of the section before, and that of one that passes
