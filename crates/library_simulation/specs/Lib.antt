pub mod Simulate
pub mod Simulations
pub mod Besides
pub mod KnownBesides
pub use Rattle.model_replay.specs.Verilog as Verilog
pub use Rattle.model_replay.specs.Vital as Vital
pub use Rattle.file_models.specs as file_models
pub use Rattle.library_reader.specs as library_reader
pub use Rattle.model_files.specs as model_files
pub use Rattle.model_replay.specs as model_replay
pub mod PinNames
pub mod SamePorts
pub mod CellModels
pub mod NamedModels
pub mod Standings
pub mod Catalog
pub mod Comparisons
pub mod Sections
pub mod FaultLines
pub mod Ends
pub mod Generated
