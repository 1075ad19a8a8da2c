-- Sections of a stimulus that can be run on a cell, its Verilog and its VITAL model side by side.
use Rattle.std.specs.Prelude.{◌≡◌, ℕ, All, List, [], length, slice_get, Some, Ok}
use Rattle.three_state_cells.specs.declared.driven_cell.DrivenCell.{DrivenCell}
use Rattle.three_state_cells.specs.DrivenCells.{DrivenData, driven_data_of}
use Rattle.file_models.specs.declared.file_model.FileModel.{FileModel}
use Rattle.file_models.specs.FileModels.{machine_by, IsRunnable}
use Rattle.cell_machine.specs.History.{IsProperFrom}
use Rattle.cell_machine.specs.Lines.{Machine}
use Rattle.library_reader.specs.declared.library_cell.LibraryCell.{LibraryCell}
use Rattle.library_reader.specs.declared.library_cell.LibraryCell.TheVariants as kept
use Rattle.library_reader.specs.LibraryCells.{CellEntry, Accepted, all_described}
use Rattle.specify_blocks.specs.declared.model.VModule.{VModule}
use Rattle.specify_blocks.specs.Sound as modules_of
use Rattle.vital_models.specs.declared.model.VEntity.{VEntity}
use Rattle.vital_models.specs.Sound as entities_of
use Rattle.model_traces.specs.ModuleTrace.{module_machine}
use Rattle.model_traces.specs.EntityTrace.{entity_machine}
use Rattle.stimulus.specs.declared.ports.Ports.{Ports}
use Rattle.stimulus.specs.declared.sections.Section.{Section}
use Rattle.stimulus.specs.PortEntries.{listed}
use Rattle.stimulus.specs.Stimulus.{stimulus_of}
use Rattle.stimulus.specs.Comparison.{HavePorts}
use Rattle.model_files.specs.ModelNames.{input_names, output_names}
use Rattle.library_simulation.specs.declared.numbers.ModelNumbers.{ModelNumbers}
use Rattle.library_simulation.specs.Catalog.{cells_named, simulated_of}
use Rattle.library_simulation.specs.Comparisons.{cell_machine, compared_at}

-- A model of a file can be run, with as many inputs and outputs as it has ports of each direction.
pub record RunsByPorts {M : Type 0} (is_sound : M → Type 0) (machine : M → Machine) (f : FileModel M) : Type 0 where
  pub runs : IsRunnable is_sound machine f
  pub inputs : length (input_names f.ports) ≡ f.driver.inputs
  pub outputs : length (output_names f.ports) ≡ f.driver.outputs

-- A section can be run on the cell with its number and on the models that stand for this cell: both models can be run, all three
-- have as many inputs and outputs as the cell has named ports, and the section's changes are of its inputs, at times that rise
-- strictly.
pub record CanBeCompared (cells : List CellEntry) (modules : List (FileModel VModule)) (entities : List (FileModel VEntity))
    (section : Section) : Type 0 where
  pub cell : DrivenData
  pub entity_name : List ℕ
  pub ports : Ports
  pub numbers : ModelNumbers
  pub verilog : FileModel VModule
  pub vital : FileModel VEntity
  pub is_accepted : slice_get cells section.cell ≡ Some (Accepted cell entity_name)
  pub has_ports : slice_get (simulated_of cells modules entities).catalog.cells section.cell ≡ Some ports
  pub has_models : slice_get (simulated_of cells modules entities).models section.cell ≡ Some (Some numbers)
  pub is_module : slice_get modules numbers.verilog ≡ Some verilog
  pub is_entity : slice_get entities numbers.vital ≡ Some vital
  pub is_compared :
      compared_at cells modules entities section.cell
      ≡ Some (record {
        name = cell.name;
        ports = ports;
        liberty = cell_machine cell;
        verilog = machine_by module_machine verilog;
        vital = machine_by entity_machine vital;
      })
  pub runs_module : IsRunnable modules_of.IsSound module_machine verilog
  pub runs_entity : IsRunnable entities_of.IsSound entity_machine vital
  pub have_ports : HavePorts ports (cell_machine cell) (machine_by module_machine verilog) (machine_by entity_machine vital)
  pub proper : IsProperFrom (length ports.inputs) [] section.changes

-- The sections of a stimulus that is read over the catalog of cells can be run so, where all models can be run.
abbrev pub SectionsCanBeCompared : Type 0
SectionsCanBeCompared =
    (cells : List LibraryCell) (modules : List (FileModel VModule)) (entities : List (FileModel VEntity)) (bytes : List ℕ)
    (sections : List Section)
    → All (RunsByPorts modules_of.IsSound module_machine) modules → All (RunsByPorts entities_of.IsSound entity_machine) entities
    → stimulus_of (listed (cells_named (all_described cells) modules entities)) bytes ≡ Ok sections
    → All (CanBeCompared (all_described cells) modules entities) sections

-- the cell with this number is accepted, with these data and with this name of its VITAL model
abbrev pub HasData : List LibraryCell → ℕ → DrivenData → List ℕ → Type 0
HasData cells number content entity = (cell : DrivenCell) × (slice_get cells number ≡ Some (kept.Accepted cell entity))
    × (driven_data_of cell ≡ content)

-- The accepted cell that a list of cells is described to have at a place is the one that stands there.
abbrev pub DescribedAreCells : Type 0
DescribedAreCells =
    (cells : List LibraryCell) (number : ℕ) (content : DrivenData) (entity : List ℕ)
    → slice_get (all_described cells) number ≡ Some (Accepted content entity) → HasData cells number content entity
