pub mod NumberedPorts
pub mod PortNames
pub mod NumberedNames
pub mod CoreTerminals
pub mod Sections
