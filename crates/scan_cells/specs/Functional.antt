-- The test view of a scan cell by its test cell, which is read as a cell (Liberty Reference Manual, `test_cell` group).
use Rattle.std.specs.Prelude.{ℕ, ◌&&◌, [], Option, Some, None, is_none, if◌then◌else◌}
use Rattle.std.specs.List.{list_all}
use Rattle.std.specs.Option.{option_map}
use Rattle.liberty_groups.specs.declared.tree.Group.{Group}
use Rattle.cell_machine.specs.CellData.{CellData}
use Rattle.cell_attributes.specs.Groups.{cell_name}
use Rattle.cell_attributes.specs.Pins.{pins_of, owners_of}
use Rattle.cell_attributes.specs.CellLaws.{groups_of, outputs_of}
use Rattle.cell_reader.specs.CellTexts.{subject_of}
use Rattle.cell_reader.specs.Refusals.{refusal_of, checks_of, arcs_of}
use Rattle.scan_cells.specs.declared.enables.Enable.{Enable}
use Rattle.scan_cells.specs.declared.functional.EnabledPins.{EnabledPins}
use Rattle.scan_cells.specs.TestGroup.{view_group}
use Rattle.scan_cells.specs.Enables.{first_enable}
use Rattle.scan_cells.specs.Views.{ViewData, is_among, numbers_of, same_outline}

-- the cell that a group describes, without a time unit
abbrev pub cell_of : ℕ → Group → CellData
cell_of number group =
    let subject = subject_of None group in
    record {
      name = cell_name group;
      number = number;
      pins = pins_of group;
      groups = groups_of group;
      outputs =
          outputs_of group;
      checks = checks_of subject group;
      arcs = arcs_of subject group;
    }

-- The cell with this number that a group describes, where no reason refuses it. No cells stand before it.
abbrev pub read_group : ℕ → Group → Option CellData
read_group number group =
    if is_none (refusal_of (subject_of None group) [] group) then Some (cell_of number group) else None

-- the view of a cell with this scan enable
abbrev pub view_with : CellData → CellData → Enable → ViewData
view_with cell view enable =
    record { cell = view; pins = numbers_of cell.pins view.pins; enable = enable.pin; active = enable.active }

-- the view with these pins, of which one is the scan enable
abbrev pub enabled_view : CellData → EnabledPins → ViewData
enabled_view view found = record { cell = view; pins = found.pins; enable = found.enable.pin; active = found.enable.active }

-- The view of a cell that a group describes, by the cell that is read of it.
abbrev pub view_by : CellData → Group → Option CellData → Option ViewData
view_by cell group None = None
view_by cell group (Some view) =
    if list_all (is_among cell.pins) view.pins && same_outline cell view
    then option_map (view_with cell view) (first_enable (owners_of group) (numbers_of cell.pins view.pins))
    else None

-- The test view of a cell by its test cell. There is none exactly where the test cell, read as a cell with this name and
-- number and without the cells before it, meets a refusal; where a pin of it is not in the cell with the same direction;
-- where none of its pins is a scan enable; and where its number of state groups, or the set of the names of its outputs,
-- is not that of the cell. (This project's rule.)
abbrev pub functional_view : CellData → Group → Option ViewData
functional_view cell test = view_by cell (view_group cell.name test) (read_group cell.number (view_group cell.name test))
