pub mod NetValues
pub mod Primitives
pub mod CheckReports
pub mod PathDelays
pub mod ModuleRun
pub mod Laws
pub mod ModuleTrace
pub mod ModuleSized
pub mod ProcessValues
pub mod SignalTimes
pub mod GatedPaths
pub mod ProcessRun
pub mod EntityTrace
pub mod ProcessLaws
pub mod SequentialStates
pub mod FitLists
pub mod CheckFits
pub mod ModuleFits
pub mod EntityFits
pub mod Agreement
pub use Rattle.run_parts.specs.PortNumbers as PortNumbers
pub use Rattle.run_parts.specs.CheckEvents as CheckEvents
pub use Rattle.run_parts.specs.CheckTimes as CheckTimes
