-- A library simulated with the models that translating it writes: what it comes to. This project's promise.
use Rattle.std.specs.Prelude.{◌≡◌, ◌≢◌, ◌≤◌, ℕ, List, [], length, Ok, All}
use Rattle.cell_cursor.specs.Ends.{items_within}
use Rattle.library_simulation.specs.library_reader.LibraryCells.{CellEntry}
use Rattle.library_simulation.specs.file_models.stimulus.declared.sections.Section.{Section}
use Rattle.library_simulation.specs.file_models.stimulus.PortEntries.{NamedCells, listed}
use Rattle.library_simulation.specs.file_models.stimulus.Stimulus.{stimulus_of}
use Rattle.run_outcome.specs.declared.status.Status.TheVariants as status
use Rattle.run_outcome.specs.Written.{in_report}
use Rattle.run_outcome.specs.Outcome.{Outcome}
use Rattle.library_simulation.specs.Catalog.{cells_named}
use Rattle.library_simulation.specs.Comparisons.{sections_text}
use Rattle.library_simulation.specs.Generated.{modules_of, entities_of, SaysEqual}
use Rattle.library_simulation.specs.FaultLines.{cause_stop}
use Rattle.library_simulation.specs.model_files.StimulusAnswer.{stimulus_answer}
use Rattle.library_simulation.specs.library_reader.Endings.{library_limit}
use Rattle.library_simulation.specs.library_reader.KeptCells.{kept_cells}
use Rattle.library_simulation.specs.library_reader.Progress.{no_progress}
use Rattle.library_translation.specs.Library.{translate_outcome}
use Rattle.library_simulation.specs.model_files.Limits.{model_limit, stimulus_limit}
use Rattle.library_simulation.specs.library_reader.LibraryAnswer.{library_answer}
use Rattle.library_simulation.specs.Simulate.{simulate_outcome}
use Rattle.translate_cmd.specs.Complete.{IsWholeLibrary}

-- the cells of a library beside the models that are generated for them
abbrev pub own_catalog : List CellEntry → NamedCells
own_catalog cells = cells_named cells (modules_of cells) (entities_of cells)

-- what simulating a library beside its own models comes to: the Verilog and the VHDL that translating it writes
abbrev pub own_simulation : List ℕ → List ℕ → Outcome
own_simulation library stimulus =
    simulate_outcome library (translate_outcome library).text.verilog (translate_outcome library).text.vital stimulus

-- This is the report of a simulation in which all traces are equal: the sections of the stimulus over the cells of the library
-- beside its own models, in order, of which each says that its three traces are equal. The models of a cell some of whose outputs
-- may float are those of its drivers over its core.
pub record SaysAllEqual (library stimulus report : List ℕ) : Type 0 where
  pub cells : List CellEntry
  pub are_cells : library_answer library ≡ Ok cells
  pub sections : List Section
  pub are_sections : stimulus_answer (cause_stop cells) (own_catalog cells) stimulus ≡ Ok sections
  pub equal : All (SaysEqual cells (modules_of cells) (entities_of cells)) sections
  pub report_is : report ≡ sections_text cells (modules_of cells) (entities_of cells) sections

-- a run that is done, with nothing but such a report
pub record ReportsAllEqual (library stimulus : List ℕ) (outcome : Outcome) : Type 0 where
  pub report : List ℕ
  pub equal : SaysAllEqual library stimulus report
  pub outcome_is : outcome ≡ record { status = status.Done; binds = 4; text = in_report report; faults = [] }

-- A run that ends neither for want of a model nor with traces that differ; where it is done, it reports that all are equal.
pub record Agrees (library stimulus : List ℕ) (outcome : Outcome) : Type 0 where
  pub not_model : outcome.status ≢ status.Model
  pub not_differ : outcome.status ≢ status.Differ
  pub done : outcome.status ≡ status.Done → ReportsAllEqual library stimulus outcome

-- Whatever the library and the stimulus are, simulating the library beside its own models comes to such a run.
abbrev pub OwnModelsAgree : Type 0
OwnModelsAgree = (library stimulus : List ℕ) → Agrees library stimulus (own_simulation library stimulus)

-- The library is whole, no line of the stimulus is bad over its cells beside its own models, and no file is over its limit: the
-- library, the Verilog and the VHDL that translating it writes, and the stimulus.
pub record IsWithoutFault (library stimulus : List ℕ) : Type 0 where
  pub whole : IsWholeLibrary library
  pub verilog_within : length (translate_outcome library).text.verilog ≤ model_limit
  pub vital_within : length (translate_outcome library).text.vital ≤ model_limit
  pub stimulus_within : length stimulus ≤ stimulus_limit
  pub sections : List Section
  pub lines : stimulus_of (listed (own_catalog (kept_cells no_progress (items_within library_limit library)))) stimulus ≡ Ok
      sections
