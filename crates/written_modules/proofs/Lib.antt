pub mod Spelling
pub mod Words
pub mod PrimitiveTokens
pub mod NameReading
pub mod RowReading
pub mod PrimitiveReading
pub mod PrimitiveText
pub mod ModuleTokens
pub mod TimingTokens
pub mod PortReading
pub mod DeclarationReading
pub mod NetReading
pub mod InstanceReading
pub mod PathReading
pub mod CheckReading
pub mod BlockReading
pub mod ModuleReading
pub mod FileReading
pub use Rattle.grammar_reader.proofs as grammar_reader
pub use Rattle.section_outlines.proofs as section_outlines
