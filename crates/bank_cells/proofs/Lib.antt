pub mod AlikeLemmas
pub mod FixedLemmas
pub mod SharedLemmas
pub mod PlaceLemmas
