use Rattle.std.proofs.Common.{◌≡◌, ◌++◌, map, drop}
use Rattle.std.specs.Prelude.{filter}
use Rattle.cell_attributes.specs.Groups.{is_pin as is_pin_of}
use Rattle.cell_attributes.proofs.groups.pins_among.Given as goal

abbrev pub invariant-loop-group : goal.invariant-loop-group
invariant-loop-group l = map (λ group. group.now) l.found.items ++ filter is_pin_of (map (λ group. group.now) (drop l.group-index l.groups)) ≡ filter is_pin_of (map (λ group. group.now) l.groups)
