pub mod Statements
pub mod Turns
