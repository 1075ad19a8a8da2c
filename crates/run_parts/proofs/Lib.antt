pub mod PortLemmas
pub mod LeastPaths
pub mod Fronts
pub mod NumberedListLemmas
pub mod PlaceLemmas
pub mod StampLemmas
pub mod KeptDelayLemmas
pub mod FedPartLemmas
