pub mod Laws
pub use Rattle.vhdl_tokens.specs as vhdl_tokens
pub use Rattle.vhdl_grammar.specs as vhdl_grammar
pub use Rattle.vhdl_writer.specs as vhdl_writer
