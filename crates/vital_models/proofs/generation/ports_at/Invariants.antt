use Rattle.std.proofs.Common.{◌≡◌, ◌++◌, map, drop}
use Rattle.vital_models.specs.Ports.{port_number}
use Rattle.vital_models.proofs.generation.ports_at.Given as goal

abbrev pub invariant-loop-pin : goal.invariant-loop-pin
invariant-loop-pin l = l.ports ++ map (port_number l.pins) (drop l.pin-index l.support) ≡ map (port_number l.pins) l.support
