-- The Verilog models of cells, some of whose outputs may float. (IEEE 1364-2005, 12.1, modules. That a driver stands behind the
-- module of its cell's core is this project's form.)
use Rattle.std.specs.Prelude.{List, map, Option, Some, None, if◌then◌else◌}
use Rattle.generated_drivers.specs.driver_models.declared.model.DriverModel.{DriverModel}
use Rattle.generated_drivers.specs.specify_blocks.declared.model.VModule.{VModule}
use Rattle.generated_drivers.specs.specify_blocks.Generated.{module_of}
use Rattle.generated_drivers.specs.three_state_cells.DrivenCells.{DrivenData, may_float}
use Rattle.generated_drivers.specs.Generated.{verilog_driver_of}
use Rattle.written_driven_models.specs.Texts.{WrittenModel}

-- the model of the drivers of a cell, where some of its outputs may float
abbrev pub own_driver : DrivenData → Option DriverModel
own_driver cell = if may_float cell then Some (verilog_driver_of cell) else None

-- the module of the core of a cell, with the driver over it
abbrev pub driven_module_of : DrivenData → WrittenModel VModule
driven_module_of cell = record { model = module_of cell.core; driver = own_driver cell }

-- those of several cells
abbrev pub driven_modules_of : List DrivenData → List (WrittenModel VModule)
driven_modules_of cells = map driven_module_of cells
