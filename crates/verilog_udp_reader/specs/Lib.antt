pub mod Headers
pub mod Primitives
