pub mod Cells
pub mod Accepted
pub mod Laws
