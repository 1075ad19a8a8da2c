pub mod PointLemmas
pub mod WordLemmas
pub mod ClockLemmas
pub mod KeptLemmas
