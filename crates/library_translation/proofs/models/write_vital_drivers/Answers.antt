use Rattle.std.proofs.Common.{◌≡◌, true, false, rules, sym, ◌∙◌}
use Rattle.three_state_cells.specs.DrivenCells.{driven_data_of}
use Rattle.run_outcome.proofs.WrittenLaws.{stopped_before}
use Rattle.library_translation.proofs.StoppedWrites.{vital_written, cause_kept}
use Rattle.library_translation.proofs.ModelTexts.{no_vital_drivers, vital_drivers_written}
use Rattle.library_translation.proofs.models.write_vital_drivers.Goals as goal

pub returns-then-not-may_float-clause-text : goal.returns-then-not-may_float-clause-text
returns-then-not-may_float-clause-text g c =
    let none : c.may_float.result ≡ false = search rules in no_vital_drivers _ c.args.entity.now (driven_data_of c.args.cell.now) (sym c.may_float.ensures ∙ none)

pub returns-in_err-model-clause-text : goal.returns-in_err-model-clause-text
returns-in_err-model-clause-text g c = stopped_before _ _ _ c.from_residual.ensures.0

pub returns-clause-text : goal.returns-clause-text
returns-clause-text g c =
    let some : c.may_float.result ≡ true = search rules in
    vital_drivers_written _ _ c.args.entity.now (driven_data_of c.args.cell.now) _ (sym c.may_float.ensures ∙ some) (rw c.in_ok-model.ensures.model at (vital_written _ _ _ _ _ c.stopped.ensures c.write_driver.ensures.text))

pub returns-clause-cause : goal.returns-clause-cause
returns-clause-cause g c = cause_kept _ _ _ _ c.stopped.ensures c.write_driver.ensures.cause
