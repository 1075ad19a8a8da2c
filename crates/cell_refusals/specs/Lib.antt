pub mod ReasonWords
pub mod Reasons
