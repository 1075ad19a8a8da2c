pub mod Outputs
pub mod CoreGroups
pub mod DriverGroups
