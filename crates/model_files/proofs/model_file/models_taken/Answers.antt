use Rattle.run_outcome.specs.FileSteps.{answer_where}
use Rattle.run_outcome.proofs.FileStepLaws.{wants_memory}
use Rattle.model_files.specs.ModelAnswer.{long_model_stop, models_in_text}
use Rattle.model_files.proofs.model_file.models_taken.Goals as goal

pub returns-in-Err-Memory-clause-err : goal.returns-in-Err-Memory-clause-err
returns-in-Err-Memory-clause-err g c =
    let l = g.L.ModelLanguage.language in
    wants_memory (answer_where (long_model_stop l.format) (models_in_text l) c.args.taken.now.more c.args.taken.now.bytes.items) (g.D.Desk.state c.args.desk.now)
