pub mod Symbols
pub mod Step
pub mod Lanes
pub mod Text
pub mod Written
pub mod Reading
pub mod Shown
pub mod Laws
