use Rattle.std.proofs.Common.{ap, ◌∙◌}
use Rattle.driven_traces.specs.DrivenLines.{driven_machine}
use Rattle.model_traces.specs.EntityTrace.{entity_machine}
use Rattle.model_replay.proofs.TextAnswers.{ok_same}
use Rattle.model_replay.proofs.starts.start_entity.Goals as goal

pub returns-clause-machine : goal.returns-clause-machine
returns-clause-machine c =
    ok_same _ _ _ _ c.over.ensures.machine
    (ap (driven_machine c.args.model.now.driver) (c.in_ok-start_by.ensures.machine ∙ ap entity_machine c.get.ensures))
