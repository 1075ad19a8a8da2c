-- The laws of VHDL text.
use Rattle.lexer.specs.Laws.{Lawful}
use Rattle.lexer.proofs.LawfulTexts.{lawful}
use Rattle.vhdl_tokens.specs.Cover.{spelling}
use Rattle.vhdl_tokens.proofs.Covered.{finds}
use Rattle.vhdl_tokens.proofs.Padding.{lets}

pub laws : Lawful spelling
laws = lawful spelling finds lets
