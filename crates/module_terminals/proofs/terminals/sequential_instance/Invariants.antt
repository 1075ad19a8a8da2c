use Rattle.std.proofs.Common.{◌≡◌, drop, filter, slice_get}
use Rattle.specify_blocks.specs.Nets.{has_state}
use Rattle.module_terminals.specs.Terminals.{sequential_instances}
use Rattle.module_terminals.proofs.terminals.sequential_instance.Given as goal

-- the instance is among the rest
abbrev pub invariant-loop-instance : goal.invariant-loop-instance
invariant-loop-instance l =
    slice_get (filter (has_state l.model.udps) (drop l.instance-index l.model.instances)) l.left
    ≡ slice_get (sequential_instances l.model) l.number
