pub mod Stays
pub mod Padding
pub mod Longest
pub mod Covered
pub mod SecondBytes
pub mod SameBytes
mod TokenFirst
pub mod LawfulTexts
pub mod GroupWords
