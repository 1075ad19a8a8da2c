use Rattle.std.proofs.Common.{◌≡◌, ◌+◌, ◌≤◌, ◌++◌, length, drop}
use Rattle.specify_blocks.specs.Ports.{ports_from}
use Rattle.specify_blocks.proofs.ports.verilog_ports.Given as goal

abbrev pub invariant-loop-pin : goal.invariant-loop-pin
invariant-loop-pin l = record {
  so_far : l.ports ++ ports_from (length l.ports + 1) (drop l.pin-index l.pins) ≡ ports_from 1 l.pins;
  few : length l.ports ≤ l.pin-index;
}
