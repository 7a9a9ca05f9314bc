-- a built file lies in the output
pub mod Inside
