pub use Rattle.bank_refusals.specs.Members as Members
pub use Rattle.bank_refusals.specs.Faults as Faults
pub use Rattle.bank_refusals.specs.Refusals as Refusals
pub mod Expanded
pub mod Fixed
pub mod Runs
pub mod Gathered
