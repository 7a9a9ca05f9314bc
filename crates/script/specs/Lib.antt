-- Edit, in the order of document 01.
pub mod Form  -- a script's commands with their offsets, or the first that is broken
pub mod Encode  -- commands as bytes, for the laws of the form
pub mod Struck  -- which edits UNDO strikes
pub mod Machine  -- the plain machine: one edit on the whole buffer and the count
pub mod Edit  -- the call: 12, 3, 4, then the unstruck edits in order
pub mod NoOverlap  -- what document 02 claims of overlap
pub mod EqualStart  -- and of an equal start
pub mod JoinedScripts  -- and of joined scripts
pub mod Examples  -- Edit computed: each command, its refusals, and which comes first
pub mod OverlapExamples  -- 30 computed
