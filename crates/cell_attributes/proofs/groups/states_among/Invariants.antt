use Rattle.std.proofs.Common.{◌≡◌, ◌++◌, map, drop}
use Rattle.std.specs.Prelude.{filter}
use Rattle.cell_attributes.specs.Groups.{is_state as is_state_of}
use Rattle.cell_attributes.proofs.groups.states_among.Given as goal

abbrev pub invariant-loop-group : goal.invariant-loop-group
invariant-loop-group l = map (λ group. group.now) l.found.items ++ filter is_state_of (map (λ group. group.now) (drop l.group-index l.groups)) ≡ filter is_state_of (map (λ group. group.now) l.groups)
