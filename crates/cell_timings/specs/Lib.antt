pub mod PinTimings
pub mod Held
pub mod CellTimings
