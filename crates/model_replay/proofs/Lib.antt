mod NewNames
pub mod PortCounts
mod OwnPorts
mod SameNames
mod TextAnswers
mod NamedDrivers
mod FoundModels
mod VerilogDrivers
mod VitalDrivers
pub mod VerilogModels
pub mod VitalModels
mod Catalogs
mod Sections
mod SectionTexts
mod ReplayFiles
pub mod Completes
