use Rattle.model_files.specs.StimulusAnswer.{long_stimulus_stop, sections_in_text}
use Rattle.run_outcome.specs.FileSteps.{answer_where}
use Rattle.run_outcome.proofs.FileStepLaws.{wants_memory}
use Rattle.model_files.proofs.stimulus_file.sections_taken.Goals as goal

pub returns-in-Err-Memory-clause-err : goal.returns-in-Err-Memory-clause-err
returns-in-Err-Memory-clause-err g c =
    wants_memory (answer_where long_stimulus_stop (sections_in_text (g.B.BadLineStop.stop c.args.bad_line.now) c.args.catalog.now) c.args.taken.now.more c.args.taken.now.bytes.items) (g.D.Desk.state c.args.desk.now)
