use Rattle.std.proofs.Common.{◌≡◌, ◌∙◌, ap, subst, IfOk}
use Rattle.cell_machine.specs.CellTrace.{cell_trace}
use Rattle.model_traces.specs.EntityTrace.{entity_trace}
use Rattle.selftest_cells.specs.Damage.{damaged_entity}
use Rattle.caught_models.specs.Caught.{is_caught}
use Rattle.cell_machine.specs.CellData.{data_of}
use Rattle.selftest_runs.proofs.BesideModels.{entity_beside, damaged_entity_beside, entity_not_caught}
use Rattle.selftest_runs.proofs.models.is_damaged_entity_caught.Goals as goal

pub is_entity_caught-requires-clause-sound : goal.is_entity_caught-requires-clause-sound
is_entity_caught-requires-clause-sound c = (entity_beside (data_of c.args.cell.now) c.args.name.now _ c.args.cell.now.sound c.in_ok-entity.ensures).sound

pub is_entity_caught-requires-clause-inputs : goal.is_entity_caught-requires-clause-inputs
is_entity_caught-requires-clause-inputs c = (entity_beside (data_of c.args.cell.now) c.args.name.now _ c.args.cell.now.sound c.in_ok-entity.ensures).inputs

pub is_entity_caught-requires-clause-outputs : goal.is_entity_caught-requires-clause-outputs
is_entity_caught-requires-clause-outputs c = (entity_beside (data_of c.args.cell.now) c.args.name.now _ c.args.cell.now.sound c.in_ok-entity.ensures).outputs

pub unreachable-requires : goal.unreachable-requires
unreachable-requires c =
    entity_not_caught (data_of c.args.cell.now) c.args.name.now _ c.args.changes.now _ c.models_agree.ensures c.no_difference_is_equal.ensures c.args.cell.now.sound c.in_ok-entity.ensures
    c.requires.proper c.in_ok-is_caught.ensures c.if-is_caught.true

pub is_entity_caught-requires-2-clause-sound : goal.is_entity_caught-requires-2-clause-sound
is_entity_caught-requires-2-clause-sound c =
    (damaged_entity_beside (data_of c.args.cell.now) c.args.name.now _ _ c.damaged_entities_are_sound.ensures c.args.cell.now.sound c.in_ok-entity.ensures c.in_ok-damaged.ensures).sound

pub is_entity_caught-requires-2-clause-inputs : goal.is_entity_caught-requires-2-clause-inputs
is_entity_caught-requires-2-clause-inputs c =
    (damaged_entity_beside (data_of c.args.cell.now) c.args.name.now _ _ c.damaged_entities_are_sound.ensures c.args.cell.now.sound c.in_ok-entity.ensures c.in_ok-damaged.ensures).inputs

pub is_entity_caught-requires-2-clause-outputs : goal.is_entity_caught-requires-2-clause-outputs
is_entity_caught-requires-2-clause-outputs c =
    (damaged_entity_beside (data_of c.args.cell.now) c.args.name.now _ _ c.damaged_entities_are_sound.ensures c.args.cell.now.sound c.in_ok-entity.ensures c.in_ok-damaged.ensures).outputs

pub returns : goal.returns
returns c =
    subst (λ m. IfOk c.is_entity_caught-2.result (λ caught. caught ≡ is_caught (cell_trace (data_of c.args.cell.now) c.args.changes.now) (entity_trace m c.args.changes.now)))
    (c.in_ok-damaged.ensures ∙ ap damaged_entity c.in_ok-entity.ensures) c.is_entity_caught-2.ensures
