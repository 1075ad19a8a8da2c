mod KeptTextLemmas
mod NamesAlone
mod OneModels
mod ModuleTexts
mod EntityTexts
pub mod CountLemmas
pub mod CountedCells
pub mod BesideModels
pub mod OwnLibraries
