-- When a replay does all that it was asked for. This project's promise.
use Rattle.std.specs.Prelude.{◌≡◌, ◌≤◌, ℕ, List, length, Ok}
use Rattle.stimulus.specs.declared.sections.Section.{Section}
use Rattle.stimulus.specs.PortEntries.{listed}
use Rattle.stimulus.specs.Stimulus.{stimulus_of}
use Rattle.model_files.specs.Languages.{Language}
use Rattle.model_files.specs.Limits.{model_limit, stimulus_limit}
use Rattle.model_replay.specs.ModelPorts.{models_named}

-- a file of models and a stimulus over its models, both within their limits and neither refused
pub record CanBeReplayed {M : Type 0} (l : Language M) (text stimulus : List ℕ) : Type 0 where
  pub text_within : length text ≤ model_limit
  pub models : List M
  pub read : l.text text ≡ Ok models
  pub stimulus_within : length stimulus ≤ stimulus_limit
  pub sections : List Section
  pub lines : stimulus_of (listed (models_named l models)) stimulus ≡ Ok sections
