pub mod TextLaws
pub mod NextDrivers
pub mod ToldFaults
pub mod WrittenTexts
