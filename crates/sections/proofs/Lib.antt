-- a property of every element of a list
pub mod Every
-- functions of numbers in a row
pub mod Each
-- the version of a table's sections
pub mod Version
-- how long the bytes of events, sections and files are
pub mod Lengths
-- the bytes of events and of sections in a row
pub mod RowBytes
-- bytes split into pieces, and pieces joined
pub mod Split
-- one event and its bytes
pub mod EventBytes
-- an event loop and its bytes
pub mod EventLoop
-- a section's header and its bytes
pub mod HeaderBytes
-- Read's test of triplet and last_table_id
pub mod SameFile
-- Read's tests of numbering and the rules
pub mod Numbering
-- Read's look-back at starts and ids, and the rules
pub mod Order
-- what it means that Read's walk passes
pub mod Walk
-- the identity that the headers of a file show
pub mod Identity
-- a section that passes is the bytes of one that keeps the rules
pub mod SectionForth
-- and one that keeps the rules passes
pub mod SectionBack
-- when check and Read succeed, and what they return and leave
pub mod Read
-- which refusal comes, and with which value
pub mod Answers
-- an accepted file follows the rules
pub mod Forth
-- and a file that follows the rules is accepted
pub mod Back
-- a file is its sections joined
pub mod Joined
-- Read is exact
pub mod Exact
-- accepted files are those that follow the rules
pub mod Accepted
-- which tables a file has, and that only their versions matter
pub mod Tables
-- what Read leaves of the record buffer
pub mod Frame
-- how large an accepted file can be
pub mod FileSize
-- a file's records are its sections' events
pub mod Offsets
-- and a sound list
pub mod FileSound
-- sections and events in a segment: what counting them means
pub mod Count
-- and the order in which they stand
pub mod SegmentOrder
-- without a segment skipped
pub mod SegmentBetween
-- which file has given events in each section
pub mod Only
-- the examples, computed
pub mod Examples
-- versions by table, computed
pub mod VersionExamples
