-- Parts of declarations, as the grammar names them.
use Rattle.verilog_grammar.specs.VerilogModules as modules
use Rattle.verilog_grammar.specs.declared.declarations.Inputs.{Inputs}

abbrev pub inputs_of : Inputs → modules.Inputs
inputs_of found = record { ports = found.ports; behind = found.behind }
