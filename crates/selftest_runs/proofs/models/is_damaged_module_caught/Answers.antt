use Rattle.std.proofs.Common.{◌≡◌, ◌∙◌, ap, subst, IfOk}
use Rattle.cell_machine.specs.CellTrace.{cell_trace}
use Rattle.model_traces.specs.ModuleTrace.{module_trace}
use Rattle.selftest_cells.specs.Damage.{damaged_module}
use Rattle.caught_models.specs.Caught.{is_caught}
use Rattle.cell_machine.specs.CellData.{data_of}
use Rattle.selftest_runs.proofs.BesideModels.{module_beside, damaged_module_beside, module_not_caught}
use Rattle.selftest_runs.proofs.models.is_damaged_module_caught.Goals as goal

pub is_module_caught-requires-clause-sound : goal.is_module_caught-requires-clause-sound
is_module_caught-requires-clause-sound c = (module_beside (data_of c.args.cell.now) _ c.args.cell.now.sound c.in_ok-module.ensures).sound

pub is_module_caught-requires-clause-inputs : goal.is_module_caught-requires-clause-inputs
is_module_caught-requires-clause-inputs c = (module_beside (data_of c.args.cell.now) _ c.args.cell.now.sound c.in_ok-module.ensures).inputs

pub is_module_caught-requires-clause-outputs : goal.is_module_caught-requires-clause-outputs
is_module_caught-requires-clause-outputs c = (module_beside (data_of c.args.cell.now) _ c.args.cell.now.sound c.in_ok-module.ensures).outputs

pub unreachable-requires : goal.unreachable-requires
unreachable-requires c =
    module_not_caught (data_of c.args.cell.now) _ c.args.changes.now _ c.models_agree.ensures c.no_difference_is_equal.ensures c.args.cell.now.sound c.in_ok-module.ensures
    c.requires c.in_ok-is_caught.ensures c.if-is_caught.true

pub is_module_caught-requires-2-clause-sound : goal.is_module_caught-requires-2-clause-sound
is_module_caught-requires-2-clause-sound c =
    (damaged_module_beside (data_of c.args.cell.now) _ _ c.damaged_modules_are_sound.ensures c.args.cell.now.sound c.in_ok-module.ensures c.in_ok-damaged.ensures).sound

pub is_module_caught-requires-2-clause-inputs : goal.is_module_caught-requires-2-clause-inputs
is_module_caught-requires-2-clause-inputs c =
    (damaged_module_beside (data_of c.args.cell.now) _ _ c.damaged_modules_are_sound.ensures c.args.cell.now.sound c.in_ok-module.ensures c.in_ok-damaged.ensures).inputs

pub is_module_caught-requires-2-clause-outputs : goal.is_module_caught-requires-2-clause-outputs
is_module_caught-requires-2-clause-outputs c =
    (damaged_module_beside (data_of c.args.cell.now) _ _ c.damaged_modules_are_sound.ensures c.args.cell.now.sound c.in_ok-module.ensures c.in_ok-damaged.ensures).outputs

pub returns : goal.returns
returns c =
    subst (λ m. IfOk c.is_module_caught-2.result (λ caught. caught ≡ is_caught (cell_trace (data_of c.args.cell.now) c.args.changes.now) (module_trace m c.args.changes.now)))
    (c.in_ok-damaged.ensures ∙ ap damaged_module c.in_ok-module.ensures) c.is_module_caught-2.ensures
