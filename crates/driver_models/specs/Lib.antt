pub mod Models
pub mod Cores
pub mod Found
pub mod Wires
pub mod Terminals
pub mod Standing
pub mod PathEnds
pub mod Laws
