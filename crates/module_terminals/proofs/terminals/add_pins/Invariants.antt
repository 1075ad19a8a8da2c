use Rattle.std.proofs.Common.{◌≡◌, ◌+◌, ◌++◌, map, drop, length}
use Rattle.specify_blocks.specs.Generated.{pin_net}
use Rattle.module_terminals.proofs.terminals.add_pins.Given as goal

abbrev pub invariant-loop-pin : goal.invariant-loop-pin
invariant-loop-pin l = record {
  whole : l.nets ++ map (pin_net l.pins) (drop l.pin-index l.support) ≡ l.fn.nets ++ map (pin_net l.pins) l.support;
  len : length l.nets ≡ length l.fn.nets + l.pin-index;
}
