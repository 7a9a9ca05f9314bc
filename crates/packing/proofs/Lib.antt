-- greedy packing is the best packing in order: after any number of parts none is ahead of it, and none has fewer parts
pub mod Greedy
-- elements of the same sizes are packed alike
pub mod Map
-- greedy packing as one pass, and what a smaller element changes
pub mod OnePass
-- what parts hold tells the parts
pub mod Joined
-- the examples, computed
pub mod Examples
