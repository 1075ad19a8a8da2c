-- The laws of Verilog text.
use Rattle.lexer.specs.Laws.{Lawful}
use Rattle.lexer.proofs.LawfulTexts.{lawful}
use Rattle.verilog_tokens.specs.Cover.{spelling}
use Rattle.verilog_tokens.proofs.Covered.{finds}
use Rattle.verilog_tokens.proofs.Padding.{lets}

pub laws : Lawful spelling
laws = lawful spelling finds lets
