use Rattle.std.proofs.Common.{◌≡◌}
use Rattle.udp_tables.specs.PortNames.{input_names}
use Rattle.cell_tables.proofs.port_names.input_names.Given as goal

abbrev pub invariant-loop-k : goal.invariant-loop-k
invariant-loop-k l = l.names ≡ input_names l.k
