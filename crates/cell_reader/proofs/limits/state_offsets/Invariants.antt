use Rattle.std.proofs.Common.{◌≡◌, ◌++◌, map, drop}
use Rattle.std.specs.Prelude.{flat_map}
use Rattle.cell_attributes.specs.Limits.{state_at}
use Rattle.cell_reader.proofs.limits.state_offsets.Given as goal

abbrev pub invariant-loop-group : goal.invariant-loop-group
invariant-loop-group l = l.offsets.items ++ flat_map state_at (map (λ group. group.now) (drop l.group-index l.groups)) ≡ flat_map state_at (map (λ group. group.now) l.groups)
