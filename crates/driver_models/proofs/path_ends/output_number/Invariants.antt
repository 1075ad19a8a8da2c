use Rattle.std.proofs.Common.{◌≡◌, ◌≤◌, drop}
use Rattle.driver_models.specs.PathEnds.{output_from}
use Rattle.driver_models.proofs.path_ends.output_number.Given as goal

abbrev pub invariant-loop-port : goal.invariant-loop-port
invariant-loop-port g l =
    (output_from g.L.Language.is_same l.number (drop l.port-index l.ports) l.name ≡ output_from g.L.Language.is_same 0 l.ports l.name) × (l.number ≤ l.port-index)
