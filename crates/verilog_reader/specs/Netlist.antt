-- What stands beside a module, and finds its nets.
use Rattle.std.specs.Prelude.{ℕ, List, Option, Some, None}
use Rattle.verilog_grammar.specs.specify_blocks.declared.model.VModule.{VModule}
use Rattle.verilog_grammar.specs.VerilogModules.{port_name}
use Rattle.verilog_reader.specs.declared.driven_nets.DrivenNets.{DrivenNets}
use Rattle.first_names.specs.declared.places.FirstNames.{FirstNames}
use Rattle.first_names.specs.Places.{FindsFirst}
use Rattle.verilog_reader.specs.NameSearch.{own_name}
use Rattle.verilog_reader.specs.DrivenNets.{AreDriven}

-- the names of things, where they are kept
abbrev pub MayFind : {X : Type 0} → (X → List ℕ) → Option FirstNames → List X → Type 0
MayFind name_of (Some found) things = FindsFirst name_of found things
MayFind name_of None things = Unit {0}

-- the names of a module's ports and wires, and the nets that its instances drive
pub record AreKeptOf (m : VModule) (of_ports of_wires : Option FirstNames) (marks : DrivenNets) : Type 0 where
  pub ports : MayFind port_name of_ports m.ports
  pub wires : MayFind own_name of_wires m.wires
  pub driven : AreDriven marks m.udps m.instances
