use Rattle.std.proofs.Common.{◌+◌, ◌<◌, ◌∙◌, map, drop, length, arith}
use Rattle.core_groups.specs.Outputs.{shown}
use Rattle.core_groups.proofs.Turns.{map_turn, enable_turn}
use Rattle.core_groups.proofs.enable_pins.add_enable_pins.Goals as goal

pub loop-i-preserved : goal.loop-i-preserved
loop-i-preserved c =
    let within : c.loop-i.i < length c.args.outputs.now = omega arith in
    enable_turn (shown c.index-outputs-i.result) (map shown (drop (c.loop-i.i + 1) c.args.outputs.now)) (map shown (drop c.loop-i.i c.args.outputs.now)) c.loop-i.i
    c.loop-i.items c.add_enable_pin.new.items (map_turn shown c.args.outputs.now c.loop-i.i c.index-outputs-i.result within c.index-outputs-i.is)
    c.in_ok-add_enable_pin.ensures
    ∙ c.loop-i.invariant
