use Rattle.std.proofs.Common.{◌≡◌, drop}
use Rattle.driver_texts.specs.PortNames.{inputs, name_at}
use Rattle.driver_texts.proofs.port_names.input_name.Given as goal

abbrev pub invariant-loop-port : goal.invariant-loop-port
invariant-loop-port l = name_at (inputs (drop l.port-index l.ports)) l.left ≡ name_at (inputs l.ports) l.number
