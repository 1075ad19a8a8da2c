use Rattle.std.proofs.Common.{◌≡◌, ◌++◌, drop, length}
use Rattle.cell_machine.specs.Inputs.{pin_values}
use Rattle.cell_machine.proofs.pin_values.support_values.Given as goal

-- the values so far and those of the rest are all
abbrev pub invariant-loop-pin : goal.invariant-loop-pin
invariant-loop-pin l = record {
  whole : l.values ++ pin_values l.pins l.inputs (drop l.pin-index l.support) ≡ pin_values l.pins l.inputs l.support;
  len : length l.values ≡ l.pin-index;
}
