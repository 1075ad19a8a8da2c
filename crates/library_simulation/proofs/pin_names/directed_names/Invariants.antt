use Rattle.std.proofs.Common.{◌≡◌, take}
use Rattle.library_simulation.specs.PinNames.{directed_names}
use Rattle.library_simulation.proofs.pin_names.directed_names.Given as goal

abbrev pub invariant-loop-pin : goal.invariant-loop-pin
invariant-loop-pin l = record { names : l.names ≡ directed_names l.direction (take l.pin-index l.pins) }
