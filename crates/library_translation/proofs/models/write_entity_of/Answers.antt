use Rattle.run_outcome.proofs.WrittenLaws.{stopped_before}
use Rattle.library_translation.proofs.StoppedWrites.{vital_written, cause_kept}
use Rattle.library_translation.proofs.models.write_entity_of.Goals as goal

pub returns-in_err-model-clause-text : goal.returns-in_err-model-clause-text
returns-in_err-model-clause-text g c = stopped_before _ _ _ c.from_residual.ensures.0

pub returns-clause-cause : goal.returns-clause-cause
returns-clause-cause g c = cause_kept _ _ _ _ c.stopped.ensures c.write_entity.ensures.cause

pub returns-clause-text : goal.returns-clause-text
returns-clause-text g c = rw c.in_ok-model.ensures at (vital_written _ _ _ _ _ c.stopped.ensures c.write_entity.ensures.text)
