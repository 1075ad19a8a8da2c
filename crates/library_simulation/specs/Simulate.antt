-- What a simulation comes to: its four files are read one after another, the first of them that ends the run decides, and behind
-- them the traces of each section are printed and compared. This project's rule.
use Rattle.std.specs.Prelude.{ℕ, List, [], ◌∷◌}
use Rattle.text_io.specs.declared.slots.InSlot.TheVariants.{Library, Verilog, Vital, Stimulus}
use Rattle.text_io.specs.declared.slots.Slot.TheVariants.{Input}
use Rattle.text_io.specs.Desk.{Folder}
use Rattle.library_reader.specs.LibraryCells.{CellEntry}
use Rattle.specify_blocks.specs.declared.model.VModule.{VModule}
use Rattle.vital_models.specs.declared.model.VEntity.{VEntity}
use Rattle.file_models.specs.declared.file_model.FileModel.{FileModel}
use Rattle.run_outcome.specs.Binding.{Files, bytes_at}
use Rattle.run_outcome.specs.Outcome.{Outcome}
use Rattle.run_outcome.specs.FileSteps.{outcome_by}
use Rattle.model_replay.specs.Verilog.{verilog}
use Rattle.model_replay.specs.Vital.{vital}
use Rattle.library_simulation.specs.Catalog.{cells_named}
use Rattle.library_simulation.specs.Ends.{sections_outcome}
use Rattle.model_files.specs.StimulusAnswer.{stimulus_answer}
use Rattle.library_simulation.specs.FaultLines.{cause_stop}
use Rattle.library_reader.specs.LibraryAnswer.{library_answer}
use Rattle.model_files.specs.ModelAnswer.{model_answer}

-- the files of `simulate`: the library, the Verilog file, the VHDL file and the stimulus
abbrev pub simulate_files : Files
simulate_files = (Input Library, 1) ∷ (Input Verilog, 2) ∷ (Input Vital, 3) ∷ (Input Stimulus, 4) ∷ []

-- the files before the stimulus
abbrev pub model_files : Files
model_files = (Input Library, 1) ∷ (Input Verilog, 2) ∷ (Input Vital, 3) ∷ []

-- behind the entities, by the stimulus
abbrev pub behind_entities : List CellEntry → List (FileModel VModule) → List (FileModel VEntity) → List ℕ → Outcome
behind_entities cells modules entities stimulus =
    outcome_by 4 (stimulus_answer (cause_stop cells) (cells_named cells modules entities) stimulus)
    (λ sections. sections_outcome cells modules entities sections)

-- behind the modules, by the VHDL file
abbrev pub behind_modules : List CellEntry → List (FileModel VModule) → List ℕ → List ℕ → Outcome
behind_modules cells modules vhdl stimulus =
    outcome_by 3 (model_answer vital vhdl) (λ entities. behind_entities cells modules entities stimulus)

-- behind the cells, by the Verilog file
abbrev pub behind_cells : List CellEntry → List ℕ → List ℕ → List ℕ → Outcome
behind_cells cells text vhdl stimulus =
    outcome_by 2 (model_answer verilog text) (λ modules. behind_modules cells modules vhdl stimulus)

-- What these bytes of a library, of a Verilog file, of a VHDL file and of a stimulus come to. Each file is bound only behind
-- files that are read.
abbrev pub simulate_outcome : List ℕ → List ℕ → List ℕ → List ℕ → Outcome
simulate_outcome library text vhdl stimulus =
    outcome_by 1 (library_answer library) (λ cells. behind_cells cells text vhdl stimulus)

-- what the words of the command come to, with these files
abbrev pub simulate_of : List (List ℕ) → Folder → Outcome
simulate_of words folder =
    simulate_outcome (bytes_at words folder 1) (bytes_at words folder 2) (bytes_at words folder 3) (bytes_at words folder 4)

-- what they come to behind the cells, the modules and the entities
abbrev pub behind_models : List CellEntry → List (FileModel VModule) → List (FileModel VEntity) → List (List ℕ) → Folder → Outcome
behind_models cells modules entities words folder = behind_entities cells modules entities (bytes_at words folder 4)
