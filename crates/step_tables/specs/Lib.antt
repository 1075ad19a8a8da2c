pub mod Turned
pub mod NodeSteps
pub mod GroupPoints
pub mod Kept
