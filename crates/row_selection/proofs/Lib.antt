pub mod SelectionLemmas
pub mod IgnoredInputs
