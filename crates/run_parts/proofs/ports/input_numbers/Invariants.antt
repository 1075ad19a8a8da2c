use Rattle.std.proofs.Common.{◌≡◌, ◌≤◌, map}
use Rattle.std.specs.List.{range_with_len}
use Rattle.run_parts.specs.PortNumbers.{input_number}
use Rattle.run_parts.proofs.ports.input_numbers.Given as goal

-- the numbers so far, and how many inputs stand before the next port
abbrev pub invariant-loop-i : goal.invariant-loop-i
invariant-loop-i l = record {
  counted : l.count ≡ input_number l.ports l.i;
  few : l.count ≤ l.i;
  numbers : l.numbers ≡ map (input_number l.ports) (range_with_len 0 l.i);
}
