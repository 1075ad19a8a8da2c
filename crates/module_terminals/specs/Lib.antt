pub mod Terminals
pub mod Feeding
