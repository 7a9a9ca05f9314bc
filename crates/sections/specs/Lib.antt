-- Definitions, in the order of document 01.
pub mod Each  -- functions of numbers in a row
pub mod Segment  -- segments, and the tables and section numbers that they have
pub mod Section  -- a section as data
pub mod Encode  -- its bytes, field by field
pub mod Every  -- a property of every element of a list
pub mod Rules  -- the rules of a file of sections
pub mod Split  -- bytes split by the lengths that they state
pub mod Decode  -- the sections that the bytes of a file show
pub mod Count  -- sections and events in a segment, counted from the bytes
pub mod Offsets  -- the records of a file's events
pub mod HeaderTests  -- what Read asks of a section before its events: 20 to 23
pub mod EventTests  -- and of its events: 24 and 26
pub mod Walk  -- Read's walk over the sections
pub mod Read  -- Read and check
pub mod Exact  -- what "Read is exact" speaks of
pub mod Files  -- short files in raw bytes
pub mod FileAnswers  -- and what is asked of them
pub mod Examples  -- sections and files computed
pub mod VersionExamples  -- versions by table computed
pub mod Broken  -- sections that break one of the rules
