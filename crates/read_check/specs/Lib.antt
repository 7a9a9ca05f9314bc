-- What the contracts of this crate say beyond the model's definitions.
pub mod Tracks  -- what the code keeps on its walk, beside what the definition keeps
