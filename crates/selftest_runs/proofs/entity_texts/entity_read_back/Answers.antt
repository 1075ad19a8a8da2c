use Rattle.std.proofs.Common.{◌≡◌, ◌∙◌, ap, subst, IfOk}
use Rattle.cell_machine.specs.CellData.{data_of}
use Rattle.vital_models.specs.Generated.{entity_of}
use Rattle.selftest_runs.proofs.EntityTexts.{generated_entity}
use Rattle.selftest_runs.proofs.entity_texts.entity_read_back.Goals as goal

pub read_back_entity-requires : goal.read_back_entity-requires
read_back_entity-requires c =
    generated_entity (data_of c.args.cell.now) c.args.name.now c.entity_is_well_formed.ensures c.cell_is_numbered.ensures c.requires _
    (c.in_ok-entity.ensures ∙ ap (λ cell. entity_of (data_of cell) c.args.name.now) (c.source.ensures ∙ c.in_ok-parts.ensures))

pub returns : goal.returns
returns c =
    subst (λ wanted. IfOk c.read_back_entity.result (λ read. read ≡ wanted))
    (c.in_ok-entity.ensures ∙ ap (λ cell. entity_of (data_of cell) c.args.name.now) (c.source.ensures ∙ c.in_ok-parts.ensures))
    c.read_back_entity.ensures
