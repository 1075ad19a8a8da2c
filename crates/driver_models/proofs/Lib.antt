pub mod FoldedNames
pub mod FoundCores
pub mod MoreEnables
pub mod CorePorts
