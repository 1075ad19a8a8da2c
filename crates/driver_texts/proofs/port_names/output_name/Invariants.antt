use Rattle.std.proofs.Common.{◌≡◌, drop}
use Rattle.driver_texts.specs.PortNames.{outputs, name_at}
use Rattle.driver_texts.proofs.port_names.output_name.Given as goal

abbrev pub invariant-loop-port : goal.invariant-loop-port
invariant-loop-port l = name_at (outputs (drop l.port-index l.ports)) l.left ≡ name_at (outputs l.ports) l.number
