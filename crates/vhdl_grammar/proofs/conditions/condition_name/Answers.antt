use Rattle.std.proofs.Common.{ap, ◌∙◌}
use Rattle.vhdl_grammar.specs.VhdlNames.{condition_of}
use Rattle.vhdl_grammar.proofs.conditions.condition_name.Goals as goal

pub returns : goal.returns
returns c =
    c.known.ensures (condition_of c.args.scope.now c.args.uses.now)
    (λ _. c.condition_of-found.ensures ∙ ap (condition_of c.args.scope.now c.args.uses.now) c.bytes.ensures)
