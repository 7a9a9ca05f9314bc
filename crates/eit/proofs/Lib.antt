-- Boolean tests as facts
pub mod Test
-- sizes and limits, as numbers
pub mod Numbers
-- two lists of numbers that are the same
pub mod SameList
-- big-endian fields and the numbers that they hold
pub mod Fields
-- writes into a buffer, and how they compose
pub mod Overwrite
-- seconds and their digits, starts under a base day, both ways
pub mod TimeLaws
-- bitwise xor: associativity, and shifts
pub mod Xor
-- CRC_32: its own four bytes at the end of a section bring it to 0, and no others do
pub mod Crc
-- chains are the bytes of descriptors with allowed tags
pub mod Chain
-- the chosen part of a pool, inside it and outside
pub mod Pools
-- records and the numbers of the buffer
pub mod Records
-- the places of an id and of a start
pub mod Find
-- `follows`, and lists of events that rise
pub mod Events
-- events that overlap, and where in a list they stand
pub mod OverlapLaws
-- two records of one event
pub mod SameEvent
-- numbers that are among others, and numbers that all differ
pub mod Among
-- what soundness says, part by part
pub mod Sound
-- the search for the place of a start: what it gives, and its passes
pub mod Placing
-- the examples, computed
pub mod Examples
