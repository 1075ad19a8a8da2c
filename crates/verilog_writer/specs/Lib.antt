pub mod Symbols
pub mod Primitive
pub mod Nets
pub mod Timing
pub mod Model
pub mod Names
