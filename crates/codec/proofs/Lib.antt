-- a write that leaves all where it does not fit, and how such writes compose
pub mod WriteLaws
-- writes one behind the other, by what is left to write
pub mod LeftLaws
-- fields, byte by byte
pub mod FieldLaws
-- chains, from any place of some bytes on
pub mod ChainSteps
-- a set of numbers holds what was added to it
pub mod SeenLaws
