use Rattle.std.proofs.Common.{◌≡◌, ◌++◌, map, drop}
use Rattle.std.specs.Prelude.{flat_map}
use Rattle.cell_attributes.specs.Pins.{owners_in}
use Rattle.cell_attributes.proofs.pins.owners_of.Given as goal

abbrev pub invariant-loop-group : goal.invariant-loop-group
invariant-loop-group l = map (λ owner. owner.now) l.owners.items ++ flat_map owners_in (map (λ group. group.now) (drop l.group-index l.groups)) ≡ flat_map owners_in (map (λ group. group.now) l.groups)
