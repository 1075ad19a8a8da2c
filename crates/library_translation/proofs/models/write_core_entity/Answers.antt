use Rattle.run_outcome.proofs.WrittenLaws.{stopped_before}
use Rattle.library_translation.proofs.models.write_core_entity.Goals as goal

pub returns-in_err-name-clause-text : goal.returns-in_err-name-clause-text
returns-in_err-name-clause-text g c = stopped_before _ _ _ c.from_residual.ensures.0
