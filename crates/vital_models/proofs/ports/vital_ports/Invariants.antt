use Rattle.std.proofs.Common.{◌≡◌, drop}
use Rattle.vital_models.specs.Ports.{ports_of, ports_after}
use Rattle.vital_models.proofs.ports.vital_ports.Given as goal

abbrev pub invariant-loop-pin : goal.invariant-loop-pin
invariant-loop-pin l = ports_after l.entity l.ports (drop l.pin-index l.pins) ≡ ports_of l.entity l.pins
