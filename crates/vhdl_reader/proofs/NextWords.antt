-- What is read at the next word, as it is shown below.
pub use Rattle.vhdl_declarations_reader.proofs.vhdl_grammar.NextWords.{named_other}
