use Rattle.std.proofs.Common.{length, arith}
use Rattle.bus_texts.proofs.RewrittenTexts.{symbols_replaced}
use Rattle.bus_texts.proofs.laws.rewritten_symbols.Goals as goal

pub returns : goal.returns
returns c names vectors at text apart = symbols_replaced names vectors at (length text) text (omega arith) apart
