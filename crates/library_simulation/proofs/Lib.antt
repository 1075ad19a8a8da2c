pub mod SimulationFiles
pub mod SimulateLemmas
pub mod BesideLemmas
pub mod WholeSimulations
pub mod OwnNames
pub use Rattle.file_models.proofs as file_models
pub use Rattle.library_reader.proofs as library_reader
pub use Rattle.model_files.proofs as model_files
pub use Rattle.model_replay.proofs as model_replay
mod PinLemmas
mod PortLemmas
mod CatalogLemmas
pub mod DescribedCells
pub mod PortCounts
pub mod ReadyCells
pub mod OwnModels
pub mod GeneratedModels
pub mod EqualTraces
pub mod EqualEnds
pub use Rattle.model_replay.proofs.VerilogModels as VerilogModels
pub use Rattle.model_replay.proofs.VitalModels as VitalModels
mod BadLineEnds
