-- When a model of drivers is one of a section of Verilog text, where some names are taken and some models may be its core. (IEEE
-- 1364-2005, 3.7, identifiers, 3.12, name spaces, 7.4, three-state gates, and 12.1 to 12.3, modules, their instances and ports;
-- the names of wires and the limit of numbers are this project's.)
use Rattle.std.specs.Prelude.{◌≡◌, ℕ, ◌≤◌, true, false, All, List, length, None}
use Rattle.std.specs.Str.{bytes_eq}
use Rattle.udp_tables.specs.VerilogRules.{is_among}
use Rattle.verilog_grammar.specs.VerilogModules.{port_names}
use Rattle.verilog_grammar.specs.WellFormed.{IsName, IsNumber, AreApart}
use Rattle.driven_traces.specs.declared.delays.DrivePath.{DrivePath}
use Rattle.driver_models.specs.declared.model.DriverModel.{DriverModel}
use Rattle.driver_models.specs.Models.{IsSound}
use Rattle.driver_models.specs.Terminals.{all_numbered}
use Rattle.driver_models.specs.Cores.{Core, core_ports, fits}
use Rattle.driver_texts.specs.NumberedPorts.{NumberedPort, ports_of}
use Rattle.verilog_drivers.specs.DriverText.{data_word}

-- delays that a text can tell
pub record HasNumbers (path : DrivePath) : Type 0 where
  pub rise : IsNumber path.rise
  pub fall : IsNumber path.fall

-- an output that is not driven is not called like one of so many wires to inputs of buffers
abbrev pub IsNoWire : ℕ → NumberedPort → Type 0
IsNoWire count at = at.port.input ≡ false → at.number ≡ None → is_among (all_numbered data_word count) at.port.name ≡ false

-- A driver that a section can declare: its name is not taken, an output is driven, and the first core of its core's name has its
-- ports and one more output for each driven one.
pub record IsWellFormedDriver (names : List (List ℕ)) (cores : List Core) (d : DriverModel) : Type 0 where
  pub name : IsName d.name
  pub new : is_among names d.name ≡ false
  pub ports : All IsName (port_names d.ports)
  pub apart : AreApart (port_names d.ports)
  pub some : 1 ≤ length d.driver.drives
  pub outputs : All (IsNoWire (length d.driver.drives)) (ports_of d)
  pub core : IsName d.core
  pub fits : fits d.ports (length d.driver.drives) (core_ports bytes_eq cores d.core) ≡ true
  pub paths : All HasNumbers d.driver.paths
  pub sound : IsSound d
