use Rattle.std.proofs.Common.{◌≡◌, ◌++◌, map, drop}
use Rattle.cell_attributes.specs.Groups.{inner_groups as inner_groups_of}
use Rattle.cell_attributes.proofs.groups.inner_groups.Given as goal

abbrev pub invariant-loop-item : goal.invariant-loop-item
invariant-loop-item l = map (λ group. group.now) l.groups.items ++ inner_groups_of (drop l.item-index l.cell.items) ≡ inner_groups_of l.cell.items
