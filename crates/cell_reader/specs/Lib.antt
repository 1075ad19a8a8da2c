pub use Rattle.cell_timings.specs.PinTimings as PinTimings
pub use Rattle.cell_timings.specs.Held as Held
pub mod Written
pub mod Refusals
pub mod Told
pub mod CellTexts
pub mod Parts
pub use Rattle.cell_refusals.specs.ReasonWords as ReasonWords
pub mod Laws
