pub mod VhdlRules
pub mod VhdlTables
pub mod VhdlDeclarations
pub mod VhdlNames
pub mod VhdlChecks
pub mod VhdlOutputs
pub mod VhdlText
pub mod WellFormed
pub mod Laws
pub use Rattle.udp_tables.specs as udp_tables
pub use Rattle.vital_tables.specs as vital_tables
pub mod Lowered
pub mod EitherWord
pub mod Aggregates
