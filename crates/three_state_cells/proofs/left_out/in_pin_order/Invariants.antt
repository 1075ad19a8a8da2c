use Rattle.std.proofs.Common.{◌≡◌, ◌++◌, drop}
use Rattle.three_state_cells.specs.Timing.{in_pin_order}
use Rattle.three_state_cells.proofs.left_out.in_pin_order.Given as goal

-- those of the pins so far, with those of the others, are all
abbrev pub invariant-loop-pin : goal.invariant-loop-pin
invariant-loop-pin l = l.found ++ in_pin_order l.pin (drop l.pin l.pins) l.one l.other ≡ in_pin_order 0 l.pins l.one l.other
