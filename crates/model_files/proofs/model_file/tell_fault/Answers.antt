use Rattle.run_outcome.proofs.FileStepLaws.{told_so}
use Rattle.model_files.specs.ModelAnswer.{model_fault_stop}
use Rattle.model_files.proofs.model_file.tell_fault.Goals as goal

pub returns-clause-told : goal.returns-clause-told
returns-clause-told g c = told_so _ _ (model_fault_stop c.args.format c.args.fault.now) c.write_model_fault.result _ c.write_model_fault.ensures.text c.ended.ensures
