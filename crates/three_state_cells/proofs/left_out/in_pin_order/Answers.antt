use Rattle.std.proofs.Common.{◌∙◌, ◌<◌, length, arith}
use Rattle.three_state_cells.proofs.Turns.{pin_turn}
use Rattle.three_state_cells.proofs.left_out.in_pin_order.Goals as goal

pub loop-pin-preserved : goal.loop-pin-preserved
loop-pin-preserved c =
    let within : c.loop-pin.pin < length c.args.pins.now = omega arith in
    pin_turn c.args.pins.now c.loop-pin.pin c.args.one.now c.args.other.now c.loop-pin.found c.add_of_pin.new.found c.add_of_pin-in-loop-pin.new.found within
    c.in_ok-add_of_pin.ensures c.in_ok-add_of_pin-2.ensures
    ∙ c.loop-pin.invariant
