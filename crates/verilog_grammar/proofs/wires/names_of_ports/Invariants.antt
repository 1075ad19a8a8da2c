use Rattle.std.proofs.Common.{take}
use Rattle.verilog_grammar.specs.VerilogModules.{port_names}
use Rattle.verilog_grammar.specs.SameNames.{HaveSame}
use Rattle.verilog_grammar.proofs.wires.names_of_ports.Given as goal

abbrev pub invariant-loop-port : goal.invariant-loop-port
invariant-loop-port l = HaveSame l.names (port_names (take l.port-index l.ports))
