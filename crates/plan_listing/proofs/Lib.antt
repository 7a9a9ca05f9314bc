-- texts written one behind the other are one text written
pub mod FillLaws
-- the kit's digits are these
pub mod DecimalLaws
-- the lines of a listing, section by section
pub mod ListingLaws
-- how long the text is at most
pub mod SizeLaws
