-- The data of cells with three-state outputs.
use Rattle.std.proofs.Common.{◌≡◌, true, length, arith}
use Rattle.std.proofs.lemmas.Bool.{ltb-true}
use Rattle.generated_drivers.specs.cell_machine.CellData.{CellData}
use Rattle.generated_drivers.proofs.cell_machine.RuleLemmas.{rules_of}
use Rattle.generated_drivers.specs.three_state_cells.DrivenCells.{DrivenData, may_float, driven_data}
use Rattle.generated_drivers.proofs.three_state_cells.CoreDrivers.{drivers_are_of_cores}
use Rattle.generated_drivers.proofs.three_state_cells.DriverLimits.{drivers_keep_limits}
use Rattle.written_driven_models.specs.Library.{IsNumberedDriven}
use Rattle.written_driven_models.specs.DriverLaws.{HasDrivers, ReadCellsHaveDrivers}

pub read_cells_have_drivers : ReadCellsHaveDrivers
read_cells_have_drivers unit number cell numbered some =
    let core : CellData = (driven_data unit number cell).core in
    record {
      core = numbered;
      driver =
          drivers_are_of_cores unit number cell
          (rules_of core.name core.pins core.groups core.outputs core.checks core.arcs numbered.rules).of_outputs;
      limits = drivers_keep_limits unit number cell;
      some = some;
    }

-- a cell of a library has drivers where some of its outputs may float
pub has_drivers : (cell : DrivenData) → IsNumberedDriven cell → may_float cell ≡ true → HasDrivers cell
has_drivers cell h floats =
    let some = ltb-true 0 (length cell.driver.drives) floats in
    record { core = h.core; driver = h.driver; limits = h.limits; some = omega (arith, some) }
