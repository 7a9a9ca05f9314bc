-- Laws of this crate's definitions, and the proofs of its functions.
-- how large the annex's numbers are, and which days have a date
pub mod DateLaws
-- some dates, and each date after the one before
pub mod CalendarLaws
