pub use Rattle.core_groups.specs.Outputs as Outputs
pub use Rattle.core_groups.specs.CoreGroups as CoreGroups
pub use Rattle.core_groups.specs.DriverGroups as DriverGroups
pub mod Refusals
pub mod Timing
pub mod Drivers
pub mod DrivenCells
pub mod CoreReadings
pub mod Laws
pub mod PinAttributes
pub mod Trimmed
pub mod Sinks
pub mod Gathering
