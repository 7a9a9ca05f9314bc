-- What the contracts of this crate say beyond the model's definitions.
pub mod Between  -- the events between two places of a list, and those of the next segment
pub mod Cutting  -- what one section takes
pub mod Counting  -- the sections of a segment, and of all segments of a list
