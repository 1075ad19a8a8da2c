use Rattle.lexer.proofs.Padding.{same_tokens}
use Rattle.vhdl_tokens.specs.Tokens.{lexis}
use Rattle.vhdl_tokens.specs.Separators.{IsComment}
use Rattle.vhdl_tokens.proofs.Padding.{lets}
use Rattle.grammar_reader.proofs.TextLaws.{same_values}
use Rattle.vhdl_declarations_reader.specs.vhdl_grammar.VhdlText.{language}
use Rattle.vhdl_reader.proofs.laws.added_separators_change_no_entity.Goals as goal

pub returns : goal.returns
returns c h = same_values language c.args.text.now c.args.padded.now (same_tokens lexis IsComment lets c.args.text.now c.args.padded.now h)
