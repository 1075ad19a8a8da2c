use Rattle.std.proofs.Common.{◌≡◌, drop}
use Rattle.driver_models.specs.Models.{are_core_ports}
use Rattle.driver_models.proofs.cores.are_core_ports.Given as goal

abbrev pub invariant-loop-port : goal.invariant-loop-port
invariant-loop-port l = are_core_ports (drop l.port-index l.ports) l.driven l.left ≡ are_core_ports l.ports l.driven l.core
