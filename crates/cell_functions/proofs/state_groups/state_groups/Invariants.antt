use Rattle.std.proofs.Common.{◌≡◌, ◌++◌, map, drop}
use Rattle.cell_attributes.specs.Building.{groups_from}
use Rattle.cell_functions.proofs.state_groups.state_groups.Given as goal

abbrev pub invariant-loop-i : goal.invariant-loop-i
invariant-loop-i l = l.states ++ groups_from l.to (map (λ group. group.now) (drop l.i l.groups)) (drop l.i l.readings) ≡ groups_from l.to (map (λ group. group.now) l.groups) l.readings
