use Rattle.verilog_tokens.proofs.LawfulTexts.{laws}
use Rattle.verilog_tokens.proofs.laws.tokens_are_lawful.Goals as goal

pub returns : goal.returns
returns c = laws
