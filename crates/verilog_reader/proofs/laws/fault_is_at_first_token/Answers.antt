use Rattle.grammar_reader.proofs.TextLaws.{fault_at_first_token}
use Rattle.verilog_grammar.specs.VerilogText.{language}
use Rattle.verilog_reader.proofs.laws.fault_is_at_first_token.Goals as goal

pub returns : goal.returns
returns c = fault_at_first_token language c.args.text.now
