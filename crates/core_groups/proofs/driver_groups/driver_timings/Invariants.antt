use Rattle.std.proofs.Common.{◌≡◌, ◌++◌, map, drop}
use Rattle.core_groups.specs.DriverGroups.{driver_item}
use Rattle.core_groups.proofs.driver_groups.driver_timings.Given as goal

abbrev pub invariant-loop-group : goal.invariant-loop-group
invariant-loop-group l = l.items ++ map driver_item (map (λ group. group.now) (drop l.group-index l.groups)) ≡ map driver_item (map (λ group. group.now) l.groups)
