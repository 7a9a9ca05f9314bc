-- which numbers name which caller
pub mod CallerNumbers
