use Rattle.run_outcome.specs.declared.status.Status.TheVariants.{Done}
use Rattle.run_outcome.proofs.FailureLaws.{ends_by_call}
use Rattle.model_replay.proofs.ReplayFiles.{printed_runs}
use Rattle.model_replay.proofs.run.replay_models.Goals as goal

pub returns-in-Ok-clause-writes : goal.returns-in-Ok-clause-writes
returns-in-Ok-clause-writes g c =
    printed_runs g.L.ModelLanguage.language _ _ _ c.in-Ok.replay.models c.in-Ok.replay.sections c.write_replayed_sections.result _ c.in-Ok.ensures.read.files c.write_replayed_sections.ensures.text c.printed_status.ensures

pub returns-in-Ok-clause-cause : goal.returns-in-Ok-clause-cause
returns-in-Ok-clause-cause g c =
    ends_by_call (λ _. Done) _ _ _ c.write_replayed_sections.result _ (λ _. record { no_failure = λ e. absurd cc; has_reading = λ e. absurd cc }) c.in-Ok.ensures.kept c.write_replayed_sections.ensures.cause c.printed_status.ensures
