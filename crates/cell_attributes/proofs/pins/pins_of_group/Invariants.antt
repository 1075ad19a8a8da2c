use Rattle.std.proofs.Common.{◌≡◌, ◌++◌, map, drop}
use Rattle.cell_attributes.specs.Pins.{pin_as, pins_in}
use Rattle.cell_attributes.proofs.pins.pins_of_group.Given as goal

abbrev pub invariant-loop-name : goal.invariant-loop-name
invariant-loop-name l = l.pins ++ map (pin_as l.group) (drop l.name-index l.group.arguments) ≡ pins_in l.group
