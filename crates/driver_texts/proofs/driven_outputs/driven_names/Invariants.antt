use Rattle.std.proofs.Common.{◌≡◌, ◌≤◌, ◌++◌, drop}
use Rattle.driver_texts.specs.NumberedPorts.{numbered_ports, driven_names}
use Rattle.driver_texts.proofs.driven_outputs.driven_names.Given as goal

abbrev pub invariant-loop-port : goal.invariant-loop-port
invariant-loop-port l = record {
  names : l.names ++ driven_names (numbered_ports l.drives l.before.outputs l.before.driven (drop l.port-index l.ports)) ≡ driven_names (numbered_ports l.drives 0 0 l.ports);
  outputs : l.before.outputs ≤ l.port-index;
}
