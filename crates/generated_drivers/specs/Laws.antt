-- What holds of the models of a cell's three-state drivers: laws over the definitions.
use Rattle.std.specs.Prelude.{◌≡◌, ℕ, true, List, ◌++◌, length, codes, decimal}
use Rattle.udp_tables.specs.declared.models.VPort.{VPort}
use Rattle.driver_models.specs.declared.model.DriverModel.{DriverModel}
use Rattle.driver_models.specs.Models.{IsSound, AreCorePorts, are_core_ports}
use Rattle.specify_blocks.specs.Names.{module_name}
use Rattle.specify_blocks.specs.Generated.{module_of}
use Rattle.vital_models.specs.Kept.{entity_name}
use Rattle.vital_models.specs.Generated.{entity_of}
use Rattle.three_state_cells.specs.Drivers.{IsDriverOf}
use Rattle.three_state_cells.specs.DrivenCells.{DrivenData, core_name}
use Rattle.three_state_cells.specs.Laws.{KeepsOutputs}
use Rattle.generated_drivers.specs.Generated.{verilog_driver_of, vital_driver_of}

-- A model of drivers fits a core with these ports: it is sound, and they are those of a core for it, also as a reader tests it.
pub record FitsCore (model : DriverModel) (core : List VPort) : Type 0 where
  pub sound : IsSound model
  pub ports : AreCorePorts model.ports (length model.driver.drives) core
  pub tested : are_core_ports model.ports (length model.driver.drives) core ≡ true

-- The Verilog model of a cell's drivers fits the module of the cell's core.
abbrev pub VerilogDriversFit : Type 0
VerilogDriversFit =
    (cell : DrivenData) → KeepsOutputs cell.core → IsDriverOf cell.core cell.driver
    → FitsCore (verilog_driver_of cell) (module_of cell.core).ports

-- The VHDL model with any name fits the entity of the cell's core with any name.
abbrev pub VitalDriversFit : Type 0
VitalDriversFit =
    (cell : DrivenData) (name core : List ℕ) → KeepsOutputs cell.core → IsDriverOf cell.core cell.driver
    → FitsCore (vital_driver_of cell name) (entity_of cell.core core).ports

-- The core of the cell with a number is called `cell` and the number in both languages, whatever the entities before it are
-- called.
pub record IsNumberedCore (number : ℕ) (given : List (List ℕ)) : Type 0 where
  pub in_verilog : module_name number (core_name number) ≡ codes "cell" ++ decimal number
  pub in_vhdl : entity_name number given (core_name number) ≡ codes "cell" ++ decimal number

abbrev pub CoresAreNumbered : Type 0
CoresAreNumbered = (number : ℕ) (given : List (List ℕ)) → IsNumberedCore number given
