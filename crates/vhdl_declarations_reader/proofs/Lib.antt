pub mod NextConstant
pub mod NextVariable
pub use Rattle.vhdl_grammar.proofs as vhdl_grammar
pub mod Entries
