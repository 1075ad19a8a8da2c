use Rattle.grammar_reader.proofs.TextLaws.{same_values}
use Rattle.verilog_tokens.proofs.Padding.{same_tokens}
use Rattle.verilog_grammar.specs.VerilogText.{language}
use Rattle.verilog_reader.proofs.laws.added_separators_change_no_module.Goals as goal

pub returns : goal.returns
returns c h = same_values language c.args.text.now c.args.padded.now (same_tokens c.args.text.now c.args.padded.now h)
