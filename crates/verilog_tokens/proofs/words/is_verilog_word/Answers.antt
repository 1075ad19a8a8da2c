use Rattle.std.proofs.Common.{arith}
use Rattle.verilog_tokens.proofs.NoWord.{nothing_is_no_word}
use Rattle.verilog_tokens.proofs.words.is_verilog_word.Goals as goal

pub returns-in-empty : goal.returns-in-empty
returns-in-empty c = nothing_is_no_word c.args.name.now (omega arith)
