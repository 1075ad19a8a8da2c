use Rattle.run_outcome.proofs.FileStepLaws.{told_so}
use Rattle.model_replay.specs.Outcome.{replay_line_stop}
use Rattle.model_replay.proofs.bad_line.ReplayStopBadLineStop.tell.Goals as goal

pub returns-clause-told : goal.returns-clause-told
returns-clause-told g c = told_so _ _ (replay_line_stop c.args.line c.args.cause) c.write_stimulus_fault.result _ c.write_stimulus_fault.ensures.text c.ended.ensures
