-- The models of a cell's three-state drivers. (IEEE 1364-2005, 7.4, three-state gates, and 12.1, hierarchical structures; IEEE
-- 1076.4-2000, VitalBUFIF1; that drivers are a model of their own, whose core is the model of the cell's core, is this project's
-- form.)
use Rattle.std.specs.Prelude.{ℕ, List, ◌++◌, length, codes, decimal}
use Rattle.cell_machine.specs.declared.pins.Pin.{Pin}
use Rattle.driver_models.specs.declared.model.DriverModel.{DriverModel}
use Rattle.specify_blocks.specs.Names.{driver_name, module_name}
use Rattle.specify_blocks.specs.Ports as verilog
use Rattle.vital_models.specs.Ports as vital
use Rattle.three_state_cells.specs.Drivers.{own_pins}
use Rattle.three_state_cells.specs.DrivenCells.{DrivenData}

-- a cell's own pins
abbrev pub pins_of : DrivenData → List Pin
pins_of cell = own_pins cell.core.pins (length cell.driver.drives)

-- The Verilog model: its core is the module of the cell's core.
unfoldable pub verilog_driver_of : DrivenData → DriverModel
verilog_driver_of cell = record {
  name = driver_name cell.core.number cell.name;
  core = module_name cell.core.number cell.core.name;
  ports = verilog.ports_of (pins_of cell);
  driver = cell.driver;
}

-- The VHDL model with this name: its core is the entity of the cell's core, whose own name VHDL text does not keep.
unfoldable pub vital_driver_of : DrivenData → List ℕ → DriverModel
vital_driver_of cell name = record {
  name = name;
  core = codes "cell" ++ decimal cell.core.number;
  ports = vital.ports_of name (pins_of cell);
  driver = cell.driver;
}
