-- What is written for a cell of a library, its two models and the lines of the report, and for each other item. This project's
-- rules.
use Rattle.std.specs.Prelude.{ℕ, List, [], ◌++◌, codes, decimal, Option, Some, None, IsTrue, if◌then◌else◌}
use Rattle.std.specs.Option.{option_map}
use Rattle.text_io.specs.declared.slots.OutSlot.TheVariants.{VerilogText, VitalText}
use Rattle.text_io.specs.declared.slots.Slot.TheVariants.{Output}
use Rattle.text_io.specs.Desk.{DeskState, is_bound}
use Rattle.liberty_groups.specs.declared.tree.Group.{Group}
use Rattle.cell_machine.specs.declared.pins.Pin.{Pin}
use Rattle.cell_attributes.specs.Groups.{cell_name}
use Rattle.cell_reader.specs.declared.left_out.LeftOut.{LeftOut}
use Rattle.cell_reader.specs.declared.refusal.Refusal.{Refusal}
use Rattle.cell_cursor.specs.declared.item.LibraryItem.{LibraryItem}
use Rattle.three_state_cells.specs.DrivenCells.{DrivenData, may_float}
use Rattle.vital_models.specs.Generated.{entity_of}
use Rattle.vhdl_writer.specs.Entity.{entity_text}
use Rattle.specify_blocks.specs.Generated.{module_of}
use Rattle.verilog_writer.specs.Model.{module_text}
use Rattle.generated_drivers.specs.Generated.{verilog_driver_of, vital_driver_of}
use Rattle.verilog_drivers.specs.DriverText as verilog
use Rattle.vhdl_drivers.specs.DriverText as vhdl
use Rattle.scan_cells.specs.declared.answers.Agreement.{Agreement}
use Rattle.scan_cells.specs.TestGroup.{test_of}
use Rattle.scan_cells.specs.Functional.{functional_view}
use Rattle.scan_cells.specs.Comparison.{agreement}
use Rattle.scan_cells.specs.TestLines.{test_line}
use Rattle.library_reader.specs.ReportLines.{accepted_line, refused_line}
use Rattle.library_reader.specs.LeftOutLines.{left_out_lines, left_out_file_line}
use Rattle.run_outcome.specs.Written.{Written, in_verilog, in_vital, in_report, joined}
use Rattle.library_reader.specs.declared.progress.Progress.{Progress}
use Rattle.library_reader.specs.Progress.{next_number, next_refusal, next_data, next_entity}
use Rattle.library_reader.specs.WrittenItems.{written_for, written_for_all}

-- both model files are bound
pub record ModelsAreBound (s : DeskState) : Type 0 where
  pub verilog : IsTrue (is_bound s (Output VerilogText))
  pub vital : IsTrue (is_bound s (Output VitalText))

-- the report lines of an accepted cell: its own, and one for each of its timing groups that are left out
unfoldable pub accepted_lines : ℕ → List ℕ → List Pin → List LeftOut → List ℕ
accepted_lines number name pins left_out = accepted_line number name ++ left_out_lines number pins left_out

-- What is found of a test cell of a cell: whether its test view, where it gives one, does what the cell does. A cell of which
-- some outputs may float is not compared.
abbrev pub found_of_test : DrivenData → Group → Option Agreement
found_of_test cell test = if may_float cell then None else option_map (agreement cell.core) (functional_view cell.core test)

-- the line on a test cell of a cell, where there is one
abbrev pub lines_on_test : DrivenData → Option Group → List ℕ
lines_on_test cell None = []
lines_on_test cell (Some test) = test_line cell.core.number (found_of_test cell test)

-- the line on the test cell of a cell, where its group has one (Liberty Reference Manual, `test_cell` group)
unfoldable pub test_lines : DrivenData → Group → List ℕ
test_lines cell group = lines_on_test cell (test_of group)

-- the text of the Verilog model of a cell's three-state drivers, where some of its outputs may float
unfoldable pub verilog_drivers_text : DrivenData → List ℕ
verilog_drivers_text cell = if may_float cell then verilog.driver_text (verilog_driver_of cell) else []

-- the text of a cell's Verilog model: the module of its core, and its drivers behind it
unfoldable pub model_text : DrivenData → List ℕ
model_text cell = module_text (module_of cell.core) ++ verilog_drivers_text cell

-- The name of the entity of a cell's core, where the cell's VHDL model has this name: the same, or where some of its outputs may
-- float `cell` and the cell's number, since the model is that of the drivers.
abbrev pub core_entity_name : List ℕ → DrivenData → List ℕ
core_entity_name entity cell = if may_float cell then codes "cell" ++ decimal cell.core.number else entity

-- the text of the VHDL model, with this name, of a cell's three-state drivers, where some of its outputs may float
unfoldable pub vital_drivers_text : List ℕ → DrivenData → List ℕ
vital_drivers_text entity cell = if may_float cell then vhdl.driver_text (vital_driver_of cell entity) else []

-- the text of a cell's VHDL model with this name: the entity of its core, and its drivers behind it
unfoldable pub vital_text : List ℕ → DrivenData → List ℕ
vital_text entity cell = entity_text (entity_of cell.core (core_entity_name entity cell)) ++ vital_drivers_text entity cell

-- both models of a cell, the Verilog model before the VHDL model with this name
unfoldable pub models_written : List ℕ → DrivenData → Written
models_written entity cell = joined (in_verilog (model_text cell)) (in_vital (vital_text entity cell))

-- the models of an accepted cell, whose VHDL model has this name, its lines, and behind them the line on the test cell of its
-- group
unfoldable pub accepted_written : List ℕ → DrivenData → Group → Written
accepted_written entity cell group =
    joined (models_written entity cell)
    (joined (in_report (accepted_lines cell.core.number cell.name cell.core.pins cell.left_out))
    (in_report (test_lines cell group)))

-- of an accepted cell its models and its lines, of a refused one its line alone
abbrev pub written_by : Progress → Group → Option Refusal → Written
written_by p group None = accepted_written (next_entity p group) (next_data p group) group
written_by p group (Some refusal) = in_report (refused_line (next_number p) (cell_name group) refusal)

-- what is written for the next cell
abbrev pub cell_written : Progress → Group → Written
cell_written p group = written_by p group (next_refusal p group)

-- what is written for an item
abbrev pub item_written : Progress → LibraryItem → Written
item_written = written_for cell_written (in_report left_out_file_line)

-- what is written for these items, one after another
abbrev pub items_written : Progress → List LibraryItem → Written
items_written = written_for_all item_written
