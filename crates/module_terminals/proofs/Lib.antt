pub mod SoundInstances
pub mod Names
pub mod Searches
pub mod Gatings
