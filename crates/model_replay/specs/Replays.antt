-- What is to be run once both files of a replay are read.
use Rattle.std.specs.Prelude.{◌≡◌, ◌≤◌, ℕ, List, [], length, slice_get, Some, Ok, All}
use Rattle.text_io.specs.Desk.{DeskState}
use Rattle.cell_machine.specs.declared.changes.Change.{Change}
use Rattle.cell_machine.specs.History.{IsProperFrom}
use Rattle.stimulus.specs.declared.ports.Ports.{Ports}
use Rattle.stimulus.specs.DriveLines.{DriveMachine}
use Rattle.stimulus.specs.declared.sections.Section.{Section}
use Rattle.stimulus.specs.PortEntries.{listed}
use Rattle.stimulus.specs.Stimulus.{stimulus_of}
use Rattle.run_outcome.specs.FilesRead.{HasRead}
use Rattle.model_files.specs.Languages.{Language}
use Rattle.model_files.specs.Limits.{model_limit}
use Rattle.model_files.specs.ModelNames.{input_names, output_names}
use Rattle.model_replay.specs.declared.reading.Replay.{Replay}
use Rattle.model_replay.specs.ModelPorts.{ports_of, models_named}
use Rattle.model_replay.specs.Outcome.{replay_files, replay_of, replayed_outcome}

-- A section can be run on the model with its number: the model is well formed, it has as many names of inputs and of outputs as
-- it has inputs and outputs, and the section's changes are of its inputs, at times that rise strictly.
pub record CanBeRun {M : Type 0} (l : Language M) (models : List M) (section : Section) : Type 0 where
  pub model : M
  pub found : slice_get models section.cell ≡ Some model
  pub well_formed : l.is_well_formed model
  pub inputs : length (input_names (l.ports model)) ≡ (l.machine model).inputs
  pub outputs : length (output_names (l.ports model)) ≡ (l.machine model).outputs
  pub proper : IsProperFrom (l.machine model).inputs [] section.changes

-- A model with the number of a section that can be run, and the ports that the catalog has of it, are as the section wants them.
pub record IsFound {M : Type 0} (l : Language M) (models : List M) (section : Section) (model : M) (ports : Ports) : Type 0 where
  pub found : slice_get models section.cell ≡ Some model
  pub named : ports ≡ ports_of (l.ports model)
  pub well_formed : l.is_well_formed model
  pub inputs : length ports.inputs ≡ (l.machine model).inputs
  pub outputs : length ports.outputs ≡ (l.machine model).outputs
  pub proper : IsProperFrom (l.machine model).inputs [] section.changes

-- These changes can be given to a machine whose inputs and outputs have names in these ports: they are of its inputs, at times
-- that rise strictly.
pub record CanBeGiven (m : DriveMachine) (ports : Ports) (changes : List Change) : Type 0 where
  pub inputs : length ports.inputs ≡ m.inputs
  pub outputs : length ports.outputs ≡ m.outputs
  pub proper : IsProperFrom m.inputs [] changes

-- Both files were bound and read: some bytes of each were read, nothing was appended, and nothing else changed. The models
-- are those of the bytes that were read, and the sections those of the stimulus over the models. Where the desk tells the files,
-- the run comes to these sections.
pub record ReadsReplay {M : Type 0} (l : Language M) (old new : DeskState) (replay : Replay M) : Type 0 where
  pub files : HasRead (replay_files l.format) (replay_files l.format) (replay_of l old.words)
      (λ _. replayed_outcome l replay.models replay.sections) old new
  pub text : (bytes : List ℕ) × (length bytes ≤ model_limit) × (l.text bytes ≡ Ok replay.models)
  pub well_formed : All l.is_well_formed replay.models
  pub catalog : replay.catalog ≡ models_named l replay.models
  pub stimulus : (bytes : List ℕ) × (stimulus_of (listed (models_named l replay.models)) bytes ≡ Ok replay.sections)
  pub runs : All (CanBeRun l replay.models) replay.sections
