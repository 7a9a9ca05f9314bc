-- The face's structs as the definitions' outcomes.
pub mod Face
