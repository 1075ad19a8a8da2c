pub mod Writable
pub mod LibraryText
pub mod CellTexts
pub mod ReadingLemmas
pub mod ProperChanges
pub mod AlteredLists
pub mod SoundModules
pub mod SoundEntities
