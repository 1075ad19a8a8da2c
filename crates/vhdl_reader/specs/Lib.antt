pub mod File
pub mod Tails
pub mod Joined
pub mod Statements
