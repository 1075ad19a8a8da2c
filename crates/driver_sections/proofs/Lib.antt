pub mod Gaps
pub mod Walks
pub mod NextTokens
pub mod Parts
pub mod FoundSections
pub mod Spaces
