use Rattle.std.proofs.Common.{◌≡◌, drop}
use Rattle.udp_tables.specs.VerilogRules.{is_among}
use Rattle.verilog_grammar.specs.VerilogModules.{port_names}
use Rattle.verilog_grammar.proofs.ports.has_port.Given as goal

abbrev pub invariant-loop-port : goal.invariant-loop-port
invariant-loop-port l = is_among (port_names (drop l.port-index l.ports)) l.name ≡ is_among (port_names l.ports) l.name
