pub mod Draws
pub mod Sums
pub mod Statements
pub mod Library
pub mod Reading
pub mod Changes
pub mod Damage
