use Rattle.std.proofs.Common.{◌≡◌, take}
use Rattle.file_models.proofs.models.copied_ports.Given as goal

abbrev pub invariant-loop-port : goal.invariant-loop-port
invariant-loop-port l = l.copy ≡ take l.port-index l.ports
