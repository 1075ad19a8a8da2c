use Rattle.std.proofs.Common.{ℕ, List, Option, ap, ◌∙◌}
use Rattle.vhdl_grammar.specs.VhdlNames.{input_of, kept, stands_at}
use Rattle.vhdl_grammar.proofs.NextWords.{next_is_name}
use Rattle.vhdl_grammar.proofs.conditions.same_name.Goals as goal

pub returns : goal.returns
returns c =
    let find : List ℕ → Option ℕ = λ x. kept (stands_at c.args.inputs.now c.args.place) (input_of c.args.ports.now x) in
    c.known.ensures find (λ n. c.in_ok-found.ensures (next_is_name c.args.cursor.now c.bytes.result.now c.bytes.ensures n) ∙ ap find c.bytes.ensures)
