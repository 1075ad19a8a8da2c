pub mod ListLemmas
pub mod Tables
pub mod PortNumbers
pub mod LookedUp
pub mod ArcOrder
pub mod Names
pub mod PortNames
pub mod Conditions
pub mod Counts
pub mod Entities
pub mod EntityLists
pub use Rattle.generated_modules.proofs as generated_modules
