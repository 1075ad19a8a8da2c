pub mod Joined
pub mod Assignments
pub mod Names
pub mod Tables
pub mod Declarations
pub mod Statements
pub mod Outputs
pub mod Entity
