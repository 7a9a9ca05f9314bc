-- Laws of this crate's definitions, and the proofs of its functions.
-- the order with an entry put in or taken out, and with all slots free
pub mod OrderLaws
-- an entry that goes from one place of the order to another
pub mod RotateLaws
-- the search for the place of a start
pub mod SearchLaws
-- the slots of records, and the slot of an id
pub mod SlotLaws
-- what an index says
pub mod IndexLaws
-- an index with a record put in
pub mod AddLaws
-- an index with a record taken out
pub mod TakeOutLaws
-- an index made from a list, and written back to it
pub mod LoadLaws
-- the records beside a place
pub mod NeighbourLaws
-- places by starts that rise
pub mod RiseLaws
