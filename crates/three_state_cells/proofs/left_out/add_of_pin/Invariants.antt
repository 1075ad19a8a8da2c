use Rattle.std.proofs.Common.{◌≡◌, ◌++◌, drop}
use Rattle.three_state_cells.specs.Timing.{of_pin}
use Rattle.three_state_cells.proofs.left_out.add_of_pin.Given as goal

abbrev pub invariant-loop-line : goal.invariant-loop-line
invariant-loop-line l = l.found ++ of_pin l.pin (drop l.line-index l.lines) ≡ l.initial.found ++ of_pin l.pin l.lines
