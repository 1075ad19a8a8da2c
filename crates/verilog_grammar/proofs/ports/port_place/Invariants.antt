use Rattle.std.proofs.Common.{◌≡◌}
use Rattle.std.specs.Str.{bytes_eq}
use Rattle.udp_tables.specs.declared.models.VPort.{VPort}
use Rattle.udp_tables.specs.VerilogRules.{place_from}
use Rattle.verilog_grammar.proofs.ports.port_place.Given as goal

abbrev pub invariant-loop-at : goal.invariant-loop-at
invariant-loop-at l = place_from (λ (port : VPort). bytes_eq l.name port.name) l.at l.ports ≡ place_from (λ (port : VPort). bytes_eq l.name port.name) l.from l.ports
