-- The view that a cell's group gives stands beside the cell.
use Rattle.std.proofs.Common.{◌≡◌, true, length, Some}
use Rattle.std.specs.List.{list_all}
use Rattle.liberty_groups.specs.declared.tree.Group.{Group}
use Rattle.cell_machine.specs.CellData.{CellData}
use Rattle.cell_attributes.specs.Pins.{owners_of}
use Rattle.scan_cells.specs.declared.enables.Enable.{Enable}
use Rattle.scan_cells.specs.Enables.{first_enable}
use Rattle.scan_cells.specs.Views.{is_among, numbers_of, same_outline, StandsBeside}
use Rattle.scan_cells.specs.Functional.{view_with}
use Rattle.scan_cells.proofs.Pins.{pins_found, numbers_below}
use Rattle.scan_cells.proofs.ViewEnables.{enable_below}

-- a view with its scan enable stands beside the cell
pub beside :
    (cell : CellData) (group : Group) (view : CellData) (enable : Enable)
    → list_all (is_among cell.pins) view.pins ≡ true → same_outline cell view ≡ true
    → first_enable (owners_of group) (numbers_of cell.pins view.pins) ≡ Some enable
    → StandsBeside cell (view_with cell view enable)
beside cell group view enable among outline found =
    record {
      pins = pins_found cell.pins view.pins among;
      outline = outline;
      enable =
          enable_below (length cell.pins) (owners_of group) (numbers_of cell.pins view.pins) enable
          (numbers_below cell.pins view.pins among) found;
    }
