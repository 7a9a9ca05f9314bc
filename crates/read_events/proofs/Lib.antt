-- a piece of an event loop, and what is read of it
pub mod PieceLaws
-- the pass over an event loop, piece by piece
pub mod EventPassLaws
-- its least start and its set of ids are those of the events so far
pub mod EventsSoFarLaws
