-- What the contracts of this crate say beyond the model's definitions.
pub mod CrcTables  -- CRC_32 by eight tables of 256 entries
