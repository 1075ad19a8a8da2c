-- What replaying a file of models under a stimulus comes to. This project's rules; the traces are those of the models' language.
use Rattle.std.specs.Prelude.{ℕ, List, [], ◌∷◌, slice_get, Option, Some, None}
use Rattle.std.specs.List.{flat_map}
use Rattle.text_io.specs.declared.slots.InSlot.TheVariants.{Stimulus}
use Rattle.text_io.specs.declared.slots.Slot.TheVariants.{Input}
use Rattle.text_io.specs.Desk.{Folder}
use Rattle.cell_machine.specs.declared.changes.Change.{Change}
use Rattle.stimulus.specs.declared.sections.Section.{Section}
use Rattle.run_outcome.specs.declared.status.Status.TheVariants as status
use Rattle.run_outcome.specs.Written.{in_report}
use Rattle.run_outcome.specs.Binding.{Files, bytes_at}
use Rattle.run_outcome.specs.Outcome.{Outcome}
use Rattle.run_outcome.specs.FileSteps.{outcome_by}
use Rattle.model_files.specs.declared.format.ModelFormat.{ModelFormat}
use Rattle.model_files.specs.Formats.{slot_of}
use Rattle.model_files.specs.Languages.{Language, model_trace_text}
use Rattle.model_files.specs.FaultLines.{stimulus_fault_line}
use Rattle.model_files.specs.ModelAnswer.{model_answer}
use Rattle.model_files.specs.StimulusAnswer.{LineStop, stimulus_answer}
use Rattle.model_replay.specs.ModelPorts.{ports_of, models_named}

-- the files of a replay: that of the models and the stimulus
abbrev pub replay_files : ModelFormat → Files
replay_files format = (Input (slot_of format), 1) ∷ (Input Stimulus, 2) ∷ []

-- the section of a model: its name, and the lines of its trace on these changes
unfoldable pub model_section : {M : Type 0} → Language M → M → List Change → List ℕ
model_section l m changes = model_trace_text l m (ports_of (l.ports m)) changes

-- a section, of the model with its number
abbrev pub section_of : {M : Type 0} → Language M → Option M → List Change → List ℕ
section_of l (Some m) changes = model_section l m changes
section_of l None changes = []

abbrev pub replayed_section_text : {M : Type 0} → Language M → List M → Section → List ℕ
replayed_section_text l models section = section_of l (slice_get models section.cell) section.changes

-- the sections of a stimulus, in order
unfoldable pub replayed_sections_text : {M : Type 0} → Language M → List M → List Section → List ℕ
replayed_sections_text l models sections = flat_map (replayed_section_text l models) sections

-- how a replay ends at the first bad line of its stimulus
abbrev pub replay_line_stop : LineStop
replay_line_stop line cause = record { status = status.Stimulus; line = stimulus_fault_line line cause }

-- what a replay of these sections on these models comes to; both files are bound then
abbrev pub replayed_outcome : {M : Type 0} → Language M → List M → List Section → Outcome
replayed_outcome l models sections =
    record { status = status.Done; binds = 2; text = in_report (replayed_sections_text l models sections); faults = [] }

-- behind the models, by the stimulus
abbrev pub behind_models : {M : Type 0} → Language M → List M → List ℕ → Outcome
behind_models l models stimulus =
    outcome_by 2 (stimulus_answer replay_line_stop (models_named l models) stimulus)
    (λ sections. replayed_outcome l models sections)

-- What these bytes of a file of models and of a stimulus come to. The stimulus is bound only behind a file of models that is
-- read.
abbrev pub replay_outcome : {M : Type 0} → Language M → List ℕ → List ℕ → Outcome
replay_outcome l text stimulus = outcome_by 1 (model_answer l text) (λ models. behind_models l models stimulus)

-- what the words of the command come to, with these files
abbrev pub replay_of : {M : Type 0} → Language M → List (List ℕ) → Folder → Outcome
replay_of l words folder = replay_outcome l (bytes_at words folder 1) (bytes_at words folder 2)
