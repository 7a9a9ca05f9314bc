-- The tables hold.
pub mod Refused
