use Rattle.std.proofs.Common.{◌≡◌, ◌++◌, map, drop}
use Rattle.std.specs.Prelude.{flat_map}
use Rattle.cell_attributes.specs.States.{states_in}
use Rattle.cell_attributes.specs.Shown.{shown_state}
use Rattle.cell_attributes.proofs.states.states_of.Given as goal

abbrev pub invariant-loop-group : goal.invariant-loop-group
invariant-loop-group l = map shown_state l.states.items ++ flat_map states_in (map (λ group. group.now) (drop l.group-index l.groups)) ≡ flat_map states_in (map (λ group. group.now) l.groups)
