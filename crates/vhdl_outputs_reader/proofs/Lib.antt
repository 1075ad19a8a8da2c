pub mod NextValue
pub mod NextLine
pub mod NextGate
pub mod ValueCounts
pub mod SourceNumbers
