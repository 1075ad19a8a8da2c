pub mod AllPlaceLemmas
pub mod PlaceLemmas
