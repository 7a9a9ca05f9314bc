-- Definitions, in the order of the request.
pub mod Roll  -- one roll, and n rolls
pub mod KthSection  -- the event bytes of the k-th section of a segment
pub mod Midnight  -- what W-205 claims, as one record type
pub mod Examples  -- rolls computed on short lists
