pub mod Checks
pub mod File
pub mod Begun
pub mod NameSearch
pub mod DrivenNets
pub mod Netlist
pub mod Terminals
pub mod Calls
