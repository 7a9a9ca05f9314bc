-- What the contracts of this crate say beyond the model's definitions; `sound` itself is in eit, specs/Sound.antt.
pub mod Forward  -- soundness of records looked at one after the other
