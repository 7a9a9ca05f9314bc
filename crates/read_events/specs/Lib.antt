-- What the contracts of this crate say beyond the model's definitions.
pub mod EventPass  -- a pass over a section's events that keeps the ids so far as a set
pub mod EventsSoFar  -- what is kept of the events so far
