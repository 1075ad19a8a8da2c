use Rattle.std.proofs.Common.{◌≡◌, ◌++◌, map, drop}
use Rattle.cell_attributes.specs.Pins.{owner_as, owners_in}
use Rattle.cell_attributes.proofs.pins.add_owner.Given as goal

abbrev pub invariant-loop-value : goal.invariant-loop-value
invariant-loop-value l = map (λ owner. owner.now) l.owners.items ++ map (owner_as l.group) (drop l._value-index l.group.arguments) ≡ map (λ owner. owner.now) l.initial.owners.items ++ owners_in l.group
