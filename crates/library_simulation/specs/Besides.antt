-- A cell beside the models that stand for it.
use Rattle.std.specs.Prelude.{◌≡◌, ℕ, List, [], length, Some}
use Rattle.three_state_cells.specs.declared.driven_cell.DrivenCell.{DrivenCell}
use Rattle.three_state_cells.specs.DrivenCells.{driven_data_of}
use Rattle.file_models.specs.declared.file_model.FileModel.{FileModel}
use Rattle.file_models.specs.FileModels.{machine_by, IsRunnable}
use Rattle.cell_machine.specs.History.{IsProperFrom}
use Rattle.library_reader.specs.LibraryCells.{CellEntry}
use Rattle.specify_blocks.specs.declared.model.VModule.{VModule}
use Rattle.specify_blocks.specs.Sound as modules_of
use Rattle.vital_models.specs.declared.model.VEntity.{VEntity}
use Rattle.vital_models.specs.Sound as entities_of
use Rattle.model_traces.specs.ModuleTrace.{module_machine}
use Rattle.model_traces.specs.EntityTrace.{entity_machine}
use Rattle.stimulus.specs.declared.ports.Ports.{Ports}
use Rattle.stimulus.specs.declared.sections.Section.{Section}
use Rattle.stimulus.specs.DriveLines.{DriveMachine}
use Rattle.stimulus.specs.Comparison.{HavePorts}
use Rattle.library_simulation.specs.Comparisons.{Compared, cell_machine, compared_at}
use Rattle.library_simulation.specs.declared.comparisons.Beside.{Beside}

-- what a section is run on, with these machines
abbrev pub compared_with : List ℕ → Ports → DriveMachine → DriveMachine → DriveMachine → Compared
compared_with name ports liberty verilog vital =
    record { name = name; ports = ports; liberty = liberty; verilog = verilog; vital = vital }

-- what runs of a cell that was read
abbrev pub machine_in : DrivenCell → DriveMachine
machine_in cell = cell_machine (driven_data_of cell)

-- what a section of the cell is run on
abbrev pub compared_of : Beside → Compared
compared_of beside =
    compared_with beside.cell.now.name beside.ports.now (machine_in beside.cell.now) (machine_by module_machine beside.module.now)
    (machine_by entity_machine beside.entity.now)

-- Changes can be given to all three: both models can be run, all have as many inputs and outputs as there are names, and the
-- changes are of these inputs, at times that rise strictly.
pub record CanBeGiven (beside : Beside) (section : Section) : Type 0 where
  pub runs_module : IsRunnable modules_of.IsSound module_machine beside.module.now
  pub runs_entity : IsRunnable entities_of.IsSound entity_machine beside.entity.now
  pub have_ports :
      HavePorts beside.ports.now (machine_in beside.cell.now) (machine_by module_machine beside.module.now)
      (machine_by entity_machine beside.entity.now)
  pub proper : IsProperFrom (length beside.ports.now.inputs) [] section.changes

-- this is what the section is run on
abbrev pub IsRunOn : List CellEntry → List (FileModel VModule) → List (FileModel VEntity) → Section → Beside → Type 0
IsRunOn cells modules entities section beside = compared_at cells modules entities section.cell ≡ Some (compared_of beside)
