-- What the leaves' contracts say beyond the model's definitions.
pub mod Write  -- a write that leaves all where it does not fit
pub mod Seen  -- a set of numbers in words of 64 bits
