pub mod Cells
pub mod Models
pub mod Library
pub mod Runs
