pub mod NextChecks
pub mod NextColumn
