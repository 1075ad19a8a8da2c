use Rattle.std.proofs.Common.{◌≡◌, ◌++◌, map, drop}
use Rattle.std.specs.Prelude.{flat_map}
use Rattle.cell_attributes.specs.Declarations.{declared_in}
use Rattle.cell_attributes.specs.Shown.{shown_name}
use Rattle.cell_attributes.proofs.declarations.declared_of.Given as goal

abbrev pub invariant-loop-group : goal.invariant-loop-group
invariant-loop-group l = map shown_name l.declared.items ++ flat_map declared_in (map (λ group. group.now) (drop l.group-index l.groups)) ≡ flat_map declared_in (map (λ group. group.now) l.groups)
