pub mod VerilogModules
pub mod VerilogBlocks
pub mod VerilogText
pub mod WellFormed
pub mod Laws
pub use Rattle.specify_blocks.specs as specify_blocks
pub mod Headers
pub mod SameNames
