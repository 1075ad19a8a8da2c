use Rattle.std.proofs.Common.{ap, ◌∙◌}
use Rattle.vhdl_grammar.specs.VhdlNames.{an_input, input_of}
use Rattle.vhdl_grammar.proofs.NextWords.{next_is_name}
use Rattle.vhdl_grammar.proofs.names.an_input.Goals as goal

pub returns : goal.returns
unfolding an_input
returns c =
    c.known.ensures (input_of c.args.ports.now) (λ n. c.in_ok-found.ensures (next_is_name c.args.cursor.now c.bytes.result.now c.bytes.ensures n) ∙ ap (input_of c.args.ports.now) c.bytes.ensures)
