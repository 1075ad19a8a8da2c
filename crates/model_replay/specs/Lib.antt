pub mod FileLanguages
pub mod Verilog
pub mod Vital
pub mod Laws
pub use Rattle.module_runs.specs.ModuleStarts as ModuleStarts
pub use Rattle.process_runs.specs.EntityStarts as EntityStarts
pub mod ModelPorts
pub mod Outcome
pub mod KnownModels
pub mod Replays
pub mod Complete
