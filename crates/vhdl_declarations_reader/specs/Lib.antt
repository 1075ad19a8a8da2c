pub mod Kinds
pub mod Tails
pub mod Scopes
pub mod Rows
pub use Rattle.udp_tables.specs as udp_tables
pub use Rattle.vhdl_grammar.specs as vhdl_grammar
pub use Rattle.vital_tables.specs as vital_tables
