mod ListedValues
pub mod WholeAudits
mod Matching
mod ReadFiles
mod ModuleNames
mod PrintedCells
