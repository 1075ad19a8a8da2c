pub mod EntityNames
pub mod KeptTexts
pub mod Counts
pub mod CellCounts
pub mod LibraryCounts
pub mod OwnCounts
pub mod Report
