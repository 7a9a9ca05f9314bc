-- the events of a sound list
pub mod SoundEvents
-- which segments Build's file has
pub mod Extent
-- the events of a list, segment by segment
pub mod EventsFrom
-- what the sections of a segment hold
pub mod Parts
-- the sections of Build's file hold the list's events
pub mod Held
-- the sections of Build's file in a segment
pub mod Segments
-- headers in the order of the rules, joined
pub mod Linked
-- the numbers of Build's sections keep the rules
pub mod Numbers
-- the sections of Build's file keep the rules
pub mod BuiltRules
-- its sections under another identity
pub mod UnderIdentity
-- any file that keeps the rules packs its segments
pub mod Rival
-- Build case by case
pub mod Build
-- unpackable segments
pub mod Packable
-- Build's packing is best
pub mod Best
-- Plan's counts
pub mod Plan
-- segments in one row of indices, not by tables
pub mod ByIndex
-- Build of what it is given, and any file that carries the same events
pub mod Given
-- in every segment Build's file is best
pub mod BestFile
-- under its identity it is the only best one
pub mod Only
-- demands 2 and 3, and demand 1's refusals
pub mod Demands
-- what W-206 claims
pub mod Callers
-- what is left of a section, version and CRC_32 aside
pub mod LeftBytes
-- and of a table
pub mod TableBytes
-- Rebuild case by case
pub mod Rebuild
-- laws of Build's file
pub mod BuiltFile
-- what W-208 claims
pub mod Versions
-- the examples and answers, computed
pub mod Examples
-- those of Rebuild
pub mod RebuildExamples
