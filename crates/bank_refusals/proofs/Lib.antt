pub mod Faultless
pub mod InnerPinLemmas
pub mod OwnLemmas
