-- What can be replayed is replayed whole.
use Rattle.std.proofs.Common.{◌≡◌, ℕ, List, ap, ◌∙◌}
use Rattle.run_outcome.specs.FileSteps.{outcome_by}
use Rattle.model_files.specs.Languages.{Language}
use Rattle.model_files.proofs.WholeAnswers.{model_whole, stimulus_whole}
use Rattle.model_replay.specs.ModelPorts.{models_named}
use Rattle.model_replay.specs.Outcome.{replay_line_stop, replayed_outcome, behind_models, replay_outcome}
use Rattle.model_replay.specs.Complete.{CanBeReplayed}

pub replayed_whole : {M : Type 0} (l : Language M) (text stimulus : List ℕ) → (can : CanBeReplayed l text stimulus)
    → replay_outcome l text stimulus ≡ replayed_outcome l can.models can.sections
replayed_whole l text stimulus can =
    ap (λ found. outcome_by 1 found (λ models. behind_models l models stimulus))
    (model_whole l text can.models can.text_within can.read)
    ∙ ap (λ found. outcome_by 2 found (λ sections. replayed_outcome l can.models sections))
    (stimulus_whole replay_line_stop (models_named l can.models) stimulus can.sections can.stimulus_within can.lines)
