pub mod DriverParts
mod NamesByPlaces
mod NumberedPorts
pub mod SectionTexts
pub mod SoundCores
pub mod StandingCores
