pub mod Cubes
pub mod PartNumbers
