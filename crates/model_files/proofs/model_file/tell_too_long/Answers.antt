use Rattle.run_outcome.proofs.FileStepLaws.{told_so}
use Rattle.model_files.specs.ModelAnswer.{long_model_stop}
use Rattle.model_files.proofs.model_file.tell_too_long.Goals as goal

pub returns-clause-told : goal.returns-clause-told
returns-clause-told g c = told_so _ _ (long_model_stop c.args.format) c.write_model_too_long.result _ c.write_model_too_long.ensures.text c.ended.ensures
