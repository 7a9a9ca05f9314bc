-- greedy packing, and the packings that it is measured against
pub mod Greedy
-- greedy packing as one pass over the elements
pub mod OnePass
-- greedy packing of numbers, computed
pub mod Examples
