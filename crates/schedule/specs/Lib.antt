-- Definitions, in the order of document 01.
pub mod Extent  -- which segments Build's file has
pub mod SectionsOf  -- its sections: events and numbers
pub mod Plan  -- Plan
pub mod Build  -- Build
pub mod Rebuild  -- Rebuild
pub mod Given  -- what the demands speak of
pub mod Refused  -- what demand 1 says of refusals
pub mod Demands  -- demands 2 and 3, and demand 1's refusals, as one record type
pub mod Callers  -- what W-206 claims: any section size, and the two callers
pub mod Versions  -- what W-208 claims of Rebuild
pub mod ExampleLists  -- lists to compute with
pub mod ExampleCalls  -- and what is asked of them
pub mod Examples  -- Build and Plan computed on short lists
pub mod Answers  -- Build's answers, and which comes first
pub mod RebuildLists  -- previous files and new lists
pub mod RebuildExamples  -- Rebuild computed on them
pub mod RebuildAnswers  -- its refusals, and which comes first
