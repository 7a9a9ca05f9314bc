-- Definitions, in the order of the request.
pub mod OneMore  -- the events of a list with one more among them
pub mod ChainRoom  -- the longest chain that still fits at a start
pub mod StillFits  -- what W-201 claims, as one record type
pub mod Examples  -- answers computed in raw numbers
