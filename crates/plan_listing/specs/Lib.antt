-- What the contracts of this crate say.
pub mod Fill  -- a text written into a lent buffer, as far as there is room
pub mod Listing  -- the text of program plan: a line for each section of a file, or a refusal
pub mod Writes  -- a text written behind what a writer has written
