pub mod NewNames
pub mod FoundCores
pub mod ReadDrivers
pub mod DriverCores
pub mod RunnableModels
pub mod DistinctNames
pub mod RestLengths
pub use Rattle.bool_functions.proofs as bool_functions
pub use Rattle.driver_texts.proofs as driver_texts
pub use Rattle.sectioned_texts.proofs as sectioned_texts
