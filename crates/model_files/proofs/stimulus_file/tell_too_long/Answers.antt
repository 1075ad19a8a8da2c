use Rattle.run_outcome.proofs.FileStepLaws.{told_so}
use Rattle.model_files.specs.StimulusAnswer.{long_stimulus_stop}
use Rattle.model_files.proofs.stimulus_file.tell_too_long.Goals as goal

pub returns-clause-told : goal.returns-clause-told
returns-clause-told g c = told_so _ _ long_stimulus_stop c.write_stimulus_too_long.result _ c.write_stimulus_too_long.ensures.text c.ended.ensures
