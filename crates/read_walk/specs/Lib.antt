-- What the contracts of this crate say beyond the model's definitions.
pub mod SectionAt  -- the section at an offset of a file, and the offset behind it
pub mod Walks  -- a walk from section to section
pub mod EventsLeft  -- the events that a reader has still to give
