-- When a model of drivers is one that VHDL text can tell. (IEEE 1076-1993, 13.3, identifiers, 1.1 and 1.2, entities and
-- architectures; that `driven` is no name of a driver, and the limits, are this project's.)
use Rattle.std.specs.Prelude.{◌≡◌, ℕ, ◌≤◌, ◌^◌, true, false, IsTrue, All, List, length, map, codes}
use Rattle.cell_machine.specs.CellRules.{is_in_order}
use Rattle.vhdl_tokens.specs.Spelling.{is_same}
use Rattle.vhdl_grammar.specs.VhdlRules.{is_among}
use Rattle.vhdl_grammar.specs.VhdlDeclarations.{port_names}
use Rattle.vhdl_grammar.specs.WellFormed.{IsEntityName, IsPortName, IsNumber, IsCount, AreApart}
use Rattle.driven_traces.specs.declared.delays.DrivePath.{DrivePath}
use Rattle.driver_models.specs.declared.model.DriverModel.{DriverModel}
use Rattle.driver_models.specs.Models.{IsSound}
use Rattle.driver_models.specs.Cores.{Core, core_ports, fits}

-- delays that a text can tell
pub record HasNumbers (path : DrivePath) : Type 0 where
  pub rise : IsNumber path.rise
  pub fall : IsNumber path.fall

-- A driver that a text can tell, with an output that is driven. The place of each path, from 0, is a number of the text, and how
-- many outputs are driven is a count.
pub record IsWrittenDriver (d : DriverModel) : Type 0 where
  pub name : IsEntityName d.name
  pub other : is_same d.name (codes "driven") ≡ false
  pub ports : All IsPortName (port_names d.ports)
  pub core : IsEntityName d.core
  pub some : 1 ≤ length d.driver.drives
  pub few : IsCount (length d.driver.drives)
  pub paths : All HasNumbers d.driver.paths
  pub few_paths : length d.driver.paths ≤ 10 ^ 15
  pub sound : IsSound d

-- A driver that a section can declare, where these names are taken and these models may be its core: its name is not taken, the
-- first core of its core's name has its ports and one more output for each driven one, and its paths stand in the order of the
-- outputs to which they lead.
pub record IsWellFormedDriver (names : List (List ℕ)) (cores : List Core) (d : DriverModel) : Type 0 where
  pub written : IsWrittenDriver d
  pub new : is_among names d.name ≡ false
  pub apart : AreApart (port_names d.ports)
  pub fits : fits d.ports (length d.driver.drives) (core_ports is_same cores d.core) ≡ true
  pub order : IsTrue (is_in_order (map (λ (path : DrivePath). path.drive) d.driver.paths))
