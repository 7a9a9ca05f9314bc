-- What the contracts of this crate say.
pub mod Date  -- the date of a Modified Julian Date
pub mod Calendar  -- the Gregorian calendar, and what `date_of` is worth
