pub mod Skipped
pub mod Skips
