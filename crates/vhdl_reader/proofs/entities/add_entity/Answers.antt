use Rattle.std.proofs.Common.{◌≡◌, ℕ, List, sym, subst}
use Rattle.bool_functions.specs.NameList.{Adds}
use Rattle.vhdl_declarations_reader.specs.vital_tables.declared.model.VEntity.{VEntity}
use Rattle.vhdl_tokens.specs.Kept.{lowered}
use Rattle.vhdl_declarations_reader.specs.vhdl_grammar.VhdlText.{entity_names}
use Rattle.vhdl_declarations_reader.specs.vhdl_grammar.Lowered.{HaveSame}
use Rattle.vhdl_declarations_reader.proofs.vhdl_grammar.LoweredNames.{entity_added}
use Rattle.vhdl_reader.proofs.entities.add_entity.Goals as goal

pub returns-clause-lowered : goal.returns-clause-lowered
returns-clause-lowered c =
    let added =
    entity_added c.args.lowered.now c.add.new.self c.args.entities.now.items c.args.entity c.in_ok-add.field-0
    (subst (λ (x : List ℕ). Adds c.args.lowered.now (lowered x) c.in_ok-add.field-0 c.add.new.self) c.as_slice.ensures
    c.in_ok-add.ensures.added) c.requires in
    subst (λ (entities : List VEntity). HaveSame c.add.new.self (entity_names entities)) (sym c.in_ok-push.ensures.items) added
