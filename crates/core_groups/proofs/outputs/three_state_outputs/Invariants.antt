use Rattle.std.proofs.Common.{◌≡◌, ◌++◌, map, drop}
use Rattle.core_groups.specs.Outputs.{outputs_from, shown}
use Rattle.core_groups.proofs.outputs.three_state_outputs.Given as goal

-- the outputs so far, with those among the other pins, are all
abbrev pub invariant-loop-pin : goal.invariant-loop-pin
invariant-loop-pin l = map shown l.outputs.items ++ outputs_from l.pin (map (λ group. group.now) (drop l.pin l.owners)) ≡ outputs_from 0 (map (λ group. group.now) l.owners)
