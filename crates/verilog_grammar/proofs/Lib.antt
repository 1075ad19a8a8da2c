pub mod VerilogAnswers
pub mod ReadNames
pub mod ReadPrimitives
pub mod ReadHeaders
pub mod ReadInstances
pub mod ReadBlocks
pub mod ReadTokens
pub mod ReadText
mod VerilogReadings
mod VerilogExamples
pub use Rattle.specify_blocks.proofs as specify_blocks
pub mod Among
pub mod Headers
pub mod SameNames
pub mod NoWires
