-- the events of a segment with one more among them
pub mod OneMore
-- the largest number that passes a test
pub mod Largest
-- whether one more event leaves its segment packable goes by the length of its chain, and falls with it
pub mod ByLength
-- the answer, case by case
pub mod ChainRoom
-- the answer goes by the events of its segment
pub mod OwnSegment
-- which events are held by the length that is given
pub mod Given
-- what a script of one PUT leaves
pub mod OnePut
-- and what Build says of it
pub mod BuildAfter
-- what W-201 claims
pub mod StillFits
-- the examples, computed
pub mod Examples
