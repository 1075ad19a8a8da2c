use Rattle.grammar_reader.proofs.TextLaws.{fault_at_first_token}
use Rattle.vhdl_declarations_reader.specs.vhdl_grammar.VhdlText.{language}
use Rattle.vhdl_reader.proofs.laws.fault_is_at_first_token.Goals as goal

pub returns : goal.returns
returns c = fault_at_first_token language c.args.text.now
