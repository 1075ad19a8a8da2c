pub mod DriverText
pub mod DriverSection
pub mod DriverSections
pub mod WellFormed
pub mod VitalSections
