use Rattle.std.proofs.Common.{◌≡◌, ◌++◌, drop}
use Rattle.scan_cells.specs.Views.{numbers_of}
use Rattle.scan_cells.proofs.view_pins.numbers_of.Given as goal

abbrev pub invariant-loop-pin : goal.invariant-loop-pin
invariant-loop-pin l = l.numbers ++ numbers_of l.pins (drop l.pin-index l.of_view) ≡ numbers_of l.pins l.of_view
