-- The sections of a simulation as the report shows them: of each the cell's name, the lines of three traces and the comparison.
-- (This project's format; the traces are those of the models in the given files, whatever these hold.)
use Rattle.std.specs.Prelude.{ℕ, Bool, false, List, [], ◌++◌, Option, Some, None, is_some, slice_get}
use Rattle.std.specs.List.{flat_map, list_any}
use Rattle.cell_machine.specs.declared.changes.Change.{Change}
use Rattle.three_state_cells.specs.DrivenCells.{DrivenData}
use Rattle.file_models.specs.declared.file_model.FileModel.{FileModel}
use Rattle.file_models.specs.FileModels.{machine_by}
use Rattle.driven_traces.specs.DrivenLines.{driven_machine}
use Rattle.cell_machine.specs.CellTrace.{cell_machine_of}
use Rattle.library_reader.specs.LibraryCells.{CellEntry, Accepted, Refused}
use Rattle.specify_blocks.specs.declared.model.VModule.{VModule}
use Rattle.vital_models.specs.declared.model.VEntity.{VEntity}
use Rattle.model_traces.specs.ModuleTrace.{module_machine}
use Rattle.model_traces.specs.EntityTrace.{entity_machine}
use Rattle.stimulus.specs.declared.ports.Ports.{Ports}
use Rattle.stimulus.specs.declared.sections.Section.{Section}
use Rattle.stimulus.specs.DriveLines.{DriveMachine}
use Rattle.stimulus.specs.TraceText.{heading_text}
use Rattle.stimulus.specs.Comparison.{Lines, three_lines, compared_text, first_unlike, verdict_text}
use Rattle.library_simulation.specs.declared.numbers.ModelNumbers.{ModelNumbers}
use Rattle.library_simulation.specs.NamedModels.{NamedModels, named_models}
use Rattle.library_simulation.specs.Catalog.{ports_in, numbers_in}

-- what runs of a cell: its core behind its drivers
abbrev pub cell_machine : DrivenData → DriveMachine
cell_machine cell = driven_machine cell.driver (cell_machine_of cell.core)

-- what a section is run on: a cell, its Verilog and its VITAL model, with the cell's name and the names of its ports
pub record Compared : Type 0 where
  pub name : List ℕ
  pub ports : Ports
  pub liberty : DriveMachine
  pub verilog : DriveMachine
  pub vital : DriveMachine

-- what the three show after a history
abbrev pub lines_of : Compared → List Change → Lines
lines_of c = three_lines c.liberty c.verilog c.vital

-- a cell with its models, where both are there
abbrev pub beside : DrivenData → Ports → Option (FileModel VModule) → Option (FileModel VEntity) → Option Compared
beside cell ports (Some m) (Some e) =
    Some (record {
      name = cell.name;
      ports = ports;
      liberty = cell_machine cell;
      verilog = machine_by module_machine m;
      vital = machine_by entity_machine e;
    })
beside cell ports _ _ = None

abbrev pub beside_numbers : NamedModels → DrivenData → Ports → Option ModelNumbers → Option Compared
beside_numbers models cell ports None = None
beside_numbers models cell ports (Some numbers) =
    beside cell ports (slice_get models.modules numbers.verilog) (slice_get models.entities numbers.vital)

abbrev pub beside_models : NamedModels → Option CellEntry → Option Compared
beside_models models None = None
beside_models models (Some (Refused name refusal)) = None
beside_models models (Some (Accepted cell entity)) =
    beside_numbers models cell (ports_in models (Accepted cell entity)) (numbers_in models (Accepted cell entity))

-- what a section on the cell with this number is run on
abbrev pub compared_at : List CellEntry → List (FileModel VModule) → List (FileModel VEntity) → ℕ → Option Compared
compared_at cells modules entities number = beside_models (named_models modules entities) (slice_get cells number)

-- a section: the cell's name, the lines of the traces on these changes, and whether they are equal
unfoldable pub compared_section : Compared → List Change → List ℕ
compared_section c changes =
    heading_text c.name ++ (compared_text c.ports changes (lines_of c) ++ verdict_text (first_unlike changes (lines_of c)))

abbrev pub section_by : Option Compared → List Change → List ℕ
section_by None changes = []
section_by (Some c) changes = compared_section c changes

abbrev pub section_text : List CellEntry → List (FileModel VModule) → List (FileModel VEntity) → Section → List ℕ
section_text cells modules entities section = section_by (compared_at cells modules entities section.cell) section.changes

-- the sections of a stimulus, in order
unfoldable pub sections_text : List CellEntry → List (FileModel VModule) → List (FileModel VEntity) → List Section → List ℕ
sections_text cells modules entities sections = flat_map (section_text cells modules entities) sections

-- two of the three traces of a section differ
abbrev pub differs_by : Option Compared → List Change → Bool
differs_by None changes = false
differs_by (Some c) changes = is_some (first_unlike changes (lines_of c))

abbrev pub differs : List CellEntry → List (FileModel VModule) → List (FileModel VEntity) → Section → Bool
differs cells modules entities section = differs_by (compared_at cells modules entities section.cell) section.changes

-- some section differs
abbrev pub any_differs : List CellEntry → List (FileModel VModule) → List (FileModel VEntity) → List Section → Bool
any_differs cells modules entities sections = list_any (differs cells modules entities) sections
