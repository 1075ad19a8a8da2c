pub mod Bounds
pub mod NumeralLemmas
pub mod AskedLemmas
pub mod ReadingLaws
