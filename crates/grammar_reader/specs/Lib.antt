pub mod Next
pub mod Words
pub mod WordValues
pub mod Texts
pub mod Reading
pub mod TextLaws
pub mod Repeated
pub mod Rests
pub mod ReadBack
pub use Rattle.lexer.specs as lexer
pub use Rattle.grammar_rules.specs as grammar_rules
