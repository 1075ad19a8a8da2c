pub mod Laws
pub use Rattle.cell_machine.specs as cell_machine
pub use Rattle.driver_sections.specs as driver_sections
pub use Rattle.grammar_reader.specs as grammar_reader
pub use Rattle.grammar_rules.specs as grammar_rules
pub use Rattle.section_outlines.specs as section_outlines
pub use Rattle.verilog_grammar.specs.specify_blocks as specify_blocks
pub use Rattle.lexer.specs as lexer
pub use Rattle.udp_tables.specs as udp_tables
pub use Rattle.verilog_grammar.specs as verilog_grammar
pub use Rattle.verilog_tokens.specs as verilog_tokens
pub use Rattle.verilog_writer.specs as verilog_writer
