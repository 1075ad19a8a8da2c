-- Terminals of an instance, with their names.
use Rattle.std.specs.Prelude.{◌≡◌, ℕ, List, map, Some}
use Rattle.verilog_grammar.specs.specify_blocks.declared.model.VNet.{VNet}
use Rattle.verilog_grammar.specs.specify_blocks.declared.model.VModule.{VModule}
use Rattle.verilog_grammar.specs.VerilogModules.{net_of}

-- these are the nets of these names
abbrev pub AreNamed : VModule → List (List ℕ) → List VNet → Type 0
AreNamed m names nets = map (net_of m) names ≡ map Some nets
