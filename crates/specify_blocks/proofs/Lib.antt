pub mod OutputPins
pub mod PortLemmas
pub mod InstanceLemmas
pub mod PrimitiveLemmas
pub mod ApartLemmas
pub mod Soundness
mod Examples
pub use Rattle.cell_tables.proofs as cell_tables
