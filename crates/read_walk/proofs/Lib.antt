-- the walk meets the pieces into which a file is split, and ends
pub mod SectionAtLaws
-- a turn of a walk, and its end
pub mod WalksLaws
