mod Examples
pub mod DriveTraces
pub mod Cuts
pub mod TimeBounds
pub mod ReadSoFar
pub mod TraceTexts
pub mod Entries
pub mod Properness
pub mod BadLines
pub mod PlainLines
pub mod PlainTimes
pub mod PlainChanges
pub mod Runs
pub mod Compared
pub mod ThreeTraces
pub mod AlikeLines
