pub mod DrivenModels
pub mod Faults
pub mod Drivers
pub mod Laws
