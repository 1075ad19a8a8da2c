-- When the models of a cell's three-state drivers are such as a text can tell: laws over the definitions.
use Rattle.std.specs.Prelude.{◌≡◌, ℕ, ◌≤◌, false, List, ◌++◌, length, Option, Some, codes, decimal}
use Rattle.std.specs.Str.{bytes_eq}
use Rattle.liberty_text.specs.declared.time.Unit.{Unit}
use Rattle.liberty_groups.specs.declared.tree.Group.{Group}
use Rattle.generated_entities.specs.generated_modules.Cells.{IsNumberedCell}
use Rattle.generated_drivers.specs.driver_models.Cores.{Core, core_ports}
use Rattle.generated_drivers.specs.udp_tables.VerilogRules as verilog_rules
use Rattle.generated_drivers.specs.specify_blocks.Names.{module_name}
use Rattle.generated_drivers.specs.specify_blocks.Names as verilog_names
use Rattle.generated_drivers.specs.specify_blocks.Generated.{module_of}
use Rattle.written_entities.specs.vhdl_tokens.Spelling.{is_same}
use Rattle.written_entities.specs.vhdl_grammar.VhdlRules as vhdl_rules
use Rattle.generated_drivers.specs.vital_models.Kept as vhdl_names
use Rattle.generated_drivers.specs.vital_models.Generated.{entity_of}
use Rattle.verilog_drivers.specs.WellFormed as verilog
use Rattle.vhdl_drivers.specs.WellFormed as vhdl
use Rattle.generated_drivers.specs.three_state_cells.Drivers.{IsDriverOf}
use Rattle.generated_drivers.specs.three_state_cells.DrivenCells.{DrivenData, driven_data}
use Rattle.generated_drivers.specs.three_state_cells.Laws.{KeepsLimits}
use Rattle.generated_drivers.specs.Generated.{verilog_driver_of, vital_driver_of}

-- the data of a cell that has three-state outputs: its core keeps the rules of cells, and its driver is a driver of it and keeps
-- limits
pub record HasDrivers (cell : DrivenData) : Type 0 where
  pub core : IsNumberedCell cell.core
  pub driver : IsDriverOf cell.core cell.driver
  pub limits : KeepsLimits (length cell.core.pins) cell.driver
  pub some : 1 ≤ length cell.driver.drives

-- Such are the data of every cell that has three-state outputs, where its core keeps the rules of cells.
abbrev pub ReadCellsHaveDrivers : Type 0
ReadCellsHaveDrivers =
    (unit : Option Unit) (number : ℕ) (cell : Group) → IsNumberedCell (driven_data unit number cell).core
    → 1 ≤ length (driven_data unit number cell).driver.drives → HasDrivers (driven_data unit number cell)

-- The Verilog model of its drivers is well formed, where its name is none of these, and the first model of the name of the core's
-- module has the ports of this module.
abbrev pub VerilogDriversAreWellFormed : Type 0
VerilogDriversAreWellFormed =
    (cell : DrivenData) (names : List (List ℕ)) (cores : List Core) → HasDrivers cell
    → verilog_rules.is_among names (verilog_names.driver_name cell.core.number cell.name) ≡ false
    → core_ports bytes_eq cores (module_name cell.core.number cell.core.name) ≡ Some (module_of cell.core).ports
    → verilog.IsWellFormedDriver names cores (verilog_driver_of cell)

-- The VHDL model of its drivers under the name that is given behind some entities is well formed, where this name is none of
-- some, and the first model of the name of the core's entity has the ports of this entity.
abbrev pub VitalDriversAreWellFormed : Type 0
VitalDriversAreWellFormed =
    (cell : DrivenData) (given names : List (List ℕ)) (cores : List Core) (core : List ℕ) → HasDrivers cell
    → vhdl_rules.is_among names (vhdl_names.driver_name cell.core.number given cell.name) ≡ false
    → core_ports is_same cores (codes "cell" ++ decimal cell.core.number) ≡ Some (entity_of cell.core core).ports
    → vhdl.IsWellFormedDriver names cores (vital_driver_of cell (vhdl_names.driver_name cell.core.number given cell.name))
