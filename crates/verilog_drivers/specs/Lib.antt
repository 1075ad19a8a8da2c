pub mod DriverText
pub mod DriverSections
pub mod Sections
pub mod WellFormed
pub mod VerilogSections
