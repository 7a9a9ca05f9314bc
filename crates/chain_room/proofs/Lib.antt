-- where a start stands among the events of a sound list
pub mod PlaceLaws
-- a pass over events, and the lengths that fit, by halving
pub mod TrialLaws
-- the answer for a sound list, by what the places are
pub mod RoomLaws
