-- Definitions, in the order of document 01.
pub mod Sizes  -- bytes in a section, events in a list, by the caller
pub mod Limits  -- ranges of a record's values, base day and version
pub mod Identity  -- how many tables there are, and the identity of zeros
pub mod SameList  -- whether two lists of numbers are the same
pub mod Fields  -- big-endian fields
pub mod Overwrite  -- writing into a lent buffer
pub mod Time  -- BCD digits and MJD, both ways
pub mod Crc  -- CRC_32 bit by bit
pub mod Chain  -- descriptor and chain
pub mod Pools  -- the two pools, and the part that a record chooses
pub mod Among  -- a number that is one of some, and numbers that all differ
pub mod Records  -- records in the lent buffer
pub mod Find  -- the position of an id and the place of a start
pub mod Events  -- what a record stands for, and `follows`
pub mod Overlap  -- events that are on at the same time
pub mod Sound  -- soundness, and the events of a list
pub mod Placing  -- the search for the place of a start
pub mod PlaceSearch  -- what document 02 claims of it
pub mod Examples  -- soundness and events computed from raw numbers
