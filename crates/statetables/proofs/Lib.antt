pub mod LaneLemmas
pub mod Onto
pub mod Widths
