pub mod Stays
pub mod Padding
pub mod Longest
pub mod Covered
mod NoWord
mod TokenFirst
pub mod LawfulTexts
