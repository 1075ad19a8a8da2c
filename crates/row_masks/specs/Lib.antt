pub mod Masks
pub mod LookUps
