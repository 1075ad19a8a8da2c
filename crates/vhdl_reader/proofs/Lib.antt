pub mod Reversed
pub mod WellRead
pub mod JoinedParts
pub mod NextWords
pub mod LastWait
