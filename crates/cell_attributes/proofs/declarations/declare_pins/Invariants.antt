use Rattle.std.proofs.Common.{◌≡◌, ◌++◌, map, drop}
use Rattle.cell_attributes.specs.Declarations.{declared_pin}
use Rattle.cell_attributes.specs.Shown.{shown_name}
use Rattle.cell_attributes.proofs.declarations.declare_pins.Given as goal

abbrev pub invariant-loop-value : goal.invariant-loop-value
invariant-loop-value l = map shown_name l.declared.items ++ map (declared_pin l.group) (drop l.value-index l.group.arguments) ≡ map shown_name l.initial.declared.items ++ map (declared_pin l.group) l.group.arguments
