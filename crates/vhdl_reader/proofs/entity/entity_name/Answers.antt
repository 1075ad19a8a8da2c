use Rattle.std.proofs.Common.{ap, ◌∙◌}
use Rattle.vhdl_declarations_reader.specs.vhdl_grammar.VhdlRules.{is_among}
use Rattle.vhdl_declarations_reader.specs.vhdl_grammar.VhdlText.{entity_names}
use Rattle.vhdl_reader.proofs.entity.entity_name.Goals as goal

pub returns : goal.returns
returns c =
    c.fresh_name.ensures (entity_names c.args.entities.now)
    (c.in_ok-taken.ensures ∙ ap (is_among (entity_names c.args.entities.now)) c.bytes-token.ensures)
