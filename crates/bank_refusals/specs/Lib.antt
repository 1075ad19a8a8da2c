pub mod Ranges
pub mod Members
pub mod Faults
pub mod Refusals
pub mod Fixed
pub mod Alike
pub mod Statements
pub mod InnerPins
