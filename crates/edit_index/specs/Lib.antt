-- What the contracts of this crate and of `edit` say of the index of a list's records.
pub mod Order  -- the order of starts and slots, with an entry put in, taken out or moved
pub mod Search  -- how far a search in the order has come
pub mod Index  -- the records of an index, and the list that it stands for
pub mod Neighbours  -- the records beside a place
pub mod Rises  -- starts that rise
