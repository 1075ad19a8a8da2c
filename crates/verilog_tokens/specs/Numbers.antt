-- Numbers of Verilog text. (IEEE 1364-2005, 3.5.1, unsigned decimal numbers; how many digits there may be is this project's
-- subset.)
pub use Rattle.lexer.specs.Numbers.{is_number, AreDigits, number_after, number_of}
