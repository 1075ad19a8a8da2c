use Rattle.std.proofs.Common.{◌≡◌, List, ap, ◌∙◌}
use Rattle.std.specs.Option.{is_some}
use Rattle.vhdl_declarations_reader.specs.vital_tables.declared.model.VEntity.{VEntity}
use Rattle.vhdl_declarations_reader.specs.vhdl_grammar.VhdlRules.{is_among}
use Rattle.vhdl_declarations_reader.specs.vhdl_grammar.VhdlText.{entity_names}
use Rattle.vhdl_declarations_reader.proofs.vhdl_grammar.LoweredNames.{found_among}
use Rattle.vhdl_reader.proofs.entities.Entities.has.Goals as goal

pub returns : goal.returns
returns c =
    c.is_some.ensures ∙ ap is_some c.in_ok-found.ensures
    ∙ found_among c.self.inside.lowered (entity_names c.self.inside.entities.items) c.args.name.now c.self.invariant c.requires
    ∙ ap (λ (entities : List VEntity). is_among (entity_names entities) c.args.name.now) c.self.view_is
