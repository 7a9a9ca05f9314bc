-- Laws of this crate's definitions, and the proofs of its functions.
-- the events between two places of a list are a part of its events
pub mod BetweenLaws
-- what one section takes, event by event
pub mod CutLaws
-- the events of a segment, one after the other
pub mod SegmentLaws
-- the sections of a segment, one after the other
pub mod PackLaws
-- the events of a list, segment by segment
pub mod RunLaws
-- a walk over the segments of a list
pub mod WalkLaws
-- the bytes that a file needs do not depend on its identity
pub mod NeedLaws
-- what is counted of a segment is what Plan and the file have there
pub mod CountLaws
-- the count of all segments, one after the other
pub mod CountPass
-- what that count has found at its end
pub mod CountEnd
