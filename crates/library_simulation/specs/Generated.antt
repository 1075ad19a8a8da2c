-- The models that are generated for the accepted cells of a library, beside these cells.
use Rattle.std.specs.Prelude.{◌≡◌, ◌≢◌, ℕ, false, List, [], ◌++◌, codes, decimal, Result, Some, None, Ok, IfOk, IfErr, IsTrue}
use Rattle.std.specs.Prelude.{All, slice_get, if◌then◌else◌}
use Rattle.bool_functions.specs.NameList.{AreDistinct}
use Rattle.cell_machine.specs.declared.changes.Change.{Change}
use Rattle.cell_machine.specs.CellRules.{is_cell}
use Rattle.cell_machine.specs.History.{IsProperFrom}
use Rattle.three_state_cells.specs.DrivenCells.{DrivenData, may_float}
use Rattle.three_state_cells.specs.Drivers.{IsDriverOf}
use Rattle.generated_drivers.specs.Generated.{verilog_driver_of, vital_driver_of}
use Rattle.file_models.specs.declared.file_model.FileModel.{FileModel}
use Rattle.file_models.specs.FileModels.{machine_by}
use Rattle.library_reader.specs.declared.library_cell.LibraryCell.{LibraryCell}
use Rattle.library_reader.specs.LibraryCells.{CellEntry, Accepted, Refused, all_described}
use Rattle.specify_blocks.specs.declared.model.VModule.{VModule}
use Rattle.specify_blocks.specs.Generated.{module_of}
use Rattle.vital_models.specs.declared.model.VEntity.{VEntity}
use Rattle.vital_models.specs.Generated.{entity_of}
use Rattle.model_traces.specs.ModuleTrace.{module_machine}
use Rattle.model_traces.specs.EntityTrace.{entity_machine}
use Rattle.stimulus.specs.declared.ports.Standing.TheVariants as standing
use Rattle.stimulus.specs.declared.sections.Section.{Section}
use Rattle.stimulus.specs.DriveLines.{lines_along}
use Rattle.stimulus.specs.PortEntries.{listed}
use Rattle.stimulus.specs.Stimulus.{stimulus_of}
use Rattle.stimulus.specs.TraceText.{heading_text}
use Rattle.stimulus.specs.Comparison.{compared_text, first_unlike, verdict_text}
use Rattle.run_outcome.specs.declared.status.Status.TheVariants as status
use Rattle.run_outcome.specs.FileSteps.{FileStop}
use Rattle.model_files.specs.StimulusAnswer.{stimulus_answer}
use Rattle.library_simulation.specs.declared.numbers.ModelNumbers.{ModelNumbers}
use Rattle.library_simulation.specs.CellModels.{CellModels, all_models, cell_model}
use Rattle.library_simulation.specs.NamedModels.{named_models, module_names, lowered_names}
use Rattle.library_simulation.specs.Catalog.{standing_in, numbers_in, cells_named}
use Rattle.library_simulation.specs.Comparisons.{Compared, cell_machine, lines_of, compared_at, section_text, any_differs}
use Rattle.library_simulation.specs.FaultLines.{cause_stop}
use Rattle.library_simulation.specs.Ends.{sections_outcome}

-- The name of the entity of a cell's core, where the VITAL model of the cell is called so: this, or where some outputs may float
-- the core's own, which VHDL text does not keep.
abbrev pub core_entity_name : DrivenData → List ℕ → List ℕ
core_entity_name cell entity = if may_float cell then codes "cell" ++ decimal cell.core.number else entity

-- the entity of the core of a cell whose VITAL model is called so
abbrev pub core_entity : DrivenData → List ℕ → VEntity
core_entity cell entity = entity_of cell.core (core_entity_name cell entity)

abbrev pub in_verilog : CellModels VModule
in_verilog = record {
  core = λ cell entity. module_of cell.core;
  driver = λ cell entity. verilog_driver_of cell;
  as_core = λ (m : VModule). record { name = m.name; ports = m.ports };
}

abbrev pub in_vital : CellModels VEntity
in_vital = record {
  core = core_entity;
  driver = vital_driver_of;
  as_core = λ (e : VEntity). record { name = e.name; ports = e.ports };
}

-- the Verilog models of the accepted cells: the modules, and behind them the drivers
abbrev pub modules_of : List CellEntry → List (FileModel VModule)
modules_of cells = all_models in_verilog cells

-- the VITAL models of the accepted cells: the entities, and behind them the drivers
abbrev pub entities_of : List CellEntry → List (FileModel VEntity)
entities_of cells = all_models in_vital cells

-- the Verilog model that stands for a cell, and the VITAL model, which has this name
abbrev pub own_verilog : DrivenData → List ℕ → FileModel VModule
own_verilog cell entity = cell_model in_verilog cell entity

abbrev pub own_vital : DrivenData → List ℕ → FileModel VEntity
own_vital cell entity = cell_model in_vital cell entity

-- no two of the Verilog models have one name, and no two of the VITAL models whatever the case of its letters
pub record HaveOwnModels (cells : List CellEntry) : Type 0 where
  pub modules : AreDistinct (module_names (modules_of cells))
  pub entities : AreDistinct (lowered_names (entities_of cells))

-- the core of a cell keeps the rules of cells, and what drives its outputs is a driver of it
pub record KeepsCellRules (cell : DrivenData) : Type 0 where
  pub core : IsTrue (is_cell cell.core.name cell.core.pins cell.core.groups cell.core.outputs cell.core.checks cell.core.arcs)
  pub driver : IsDriverOf cell.core cell.driver

-- so does a cell that is accepted
abbrev pub KeepsRules : CellEntry → Type 0
KeepsRules (Accepted cell entity) = KeepsCellRules cell
KeepsRules (Refused name refusal) = Unit {0}

-- The cells that a library's are described as keep them.
abbrev pub DescribedKeepRules : Type 0
DescribedKeepRules = (cells : List LibraryCell) → All KeepsRules (all_described cells)

-- an accepted cell may be given changes, and the models that are generated for it stand for it
pub record HasOwnModels (cells : List CellEntry) (cell : DrivenData) (entity : List ℕ) : Type 0 where
  pub numbers : ModelNumbers
  pub ready : standing_in (named_models (modules_of cells) (entities_of cells)) entity cell ≡ standing.Ready
  pub are : numbers_in (named_models (modules_of cells) (entities_of cells)) (Accepted cell entity) ≡ Some numbers
  pub own_module : slice_get (modules_of cells) numbers.verilog ≡ Some (own_verilog cell entity)
  pub own_entity : slice_get (entities_of cells) numbers.vital ≡ Some (own_vital cell entity)

-- Beside the models that are generated for the cells of a library each accepted cell may be given changes.
abbrev pub AcceptedAreReady : Type 0
AcceptedAreReady =
    (cells : List CellEntry) (number : ℕ) (cell : DrivenData) (entity : List ℕ)
    → HaveOwnModels cells → slice_get cells number ≡ Some (Accepted cell entity) → HasOwnModels cells cell entity

-- The traces of a cell and of the models that stand for it are equal on these changes.
pub record HasEqualTraces (cell : DrivenData) (entity : List ℕ) (cs : List Change) : Type 0 where
  pub verilog : lines_along (machine_by module_machine (own_verilog cell entity)).line cs ≡ lines_along
      (cell_machine cell).line cs
  pub vital : lines_along (machine_by entity_machine (own_vital cell entity)).line cs ≡ lines_along (cell_machine cell).line cs

-- So they are of each cell, some of whose outputs may float, for every list of changes of its inputs at times that rise strictly.
abbrev pub OwnModelsShowTheSame : Type 0
OwnModelsShowTheSame =
    (cell : DrivenData) (entity : List ℕ) (cs : List Change) → KeepsCellRules cell → IsProperFrom (cell_machine cell).inputs [] cs
    → HasEqualTraces cell entity cs

-- There the traces of each section are equal.
abbrev pub NoSectionDiffers : Type 0
NoSectionDiffers =
    (cells : List CellEntry) (bytes : List ℕ) (sections : List Section)
    → All KeepsRules cells → HaveOwnModels cells
    → stimulus_of (listed (cells_named cells (modules_of cells) (entities_of cells))) bytes ≡ Ok sections
    → any_differs cells (modules_of cells) (entities_of cells) sections ≡ false

-- The three traces of a section are equal, and its text says so: the cell's name, the lines of the traces, and that they are
-- equal.
pub record SaysEqual (cells : List CellEntry) (modules : List (FileModel VModule)) (entities : List (FileModel VEntity))
    (section : Section) : Type 0 where
  pub compared : Compared
  pub is_compared : compared_at cells modules entities section.cell ≡ Some compared
  pub equal : first_unlike section.changes (lines_of compared) ≡ None
  pub text :
      section_text cells modules entities section
      ≡ heading_text compared.name ++ (compared_text compared.ports section.changes (lines_of compared) ++ verdict_text None)

-- a run that comes to this at its stimulus does not end for want of a model, nor with traces that differ: each section says equal
pub record EndsEqual (cells : List CellEntry) (modules : List (FileModel VModule)) (entities : List (FileModel VEntity))
    (answer : Result (List Section) FileStop) : Type 0 where
  pub not_model : IfErr answer (λ stop. stop.status ≢ status.Model)
  pub not_differ : IfErr answer (λ stop. stop.status ≢ status.Differ)
  pub no_difference : IfOk answer (λ sections. any_differs cells modules entities sections ≡ false)
  pub done : IfOk answer (λ sections. (sections_outcome cells modules entities sections).status ≡ status.Done)
  pub sections : IfOk answer (All (SaysEqual cells modules entities))

-- So whatever the stimulus is, the run behind the four files ends neither for want of a model nor with traces that differ.
abbrev pub NeverModelOrDiffer : Type 0
NeverModelOrDiffer =
    (cells : List CellEntry) (bytes : List ℕ)
    → All KeepsRules cells → HaveOwnModels cells
    → EndsEqual cells (modules_of cells) (entities_of cells)
    (stimulus_answer (cause_stop cells) (cells_named cells (modules_of cells) (entities_of cells)) bytes)
