pub mod Numbers
pub mod BusTypes
pub mod Vectors
pub mod NamedVectors
pub mod Parts
pub mod Texts
pub mod Laws
