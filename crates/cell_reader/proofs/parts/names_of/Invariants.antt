use Rattle.std.proofs.Common.{◌≡◌, take}
use Rattle.cell_attributes.specs.Pins.{pin_names}
use Rattle.cell_reader.proofs.parts.names_of.Given as goal

abbrev pub invariant-loop-pin : goal.invariant-loop-pin
invariant-loop-pin l = l.names ≡ pin_names (take l.pin-index l.pins)
