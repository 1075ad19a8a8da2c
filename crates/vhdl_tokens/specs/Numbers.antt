-- Numbers of VHDL text. (IEEE 1076-1993, 13.4.1, integers; how many digits there may be is this project's subset.)
pub use Rattle.lexer.specs.Numbers.{is_number, AreDigits, number_after, number_of}
