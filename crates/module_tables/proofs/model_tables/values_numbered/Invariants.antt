use Rattle.std.proofs.Common.{◌≡◌, ◌++◌, drop, length, map}
use Rattle.cell_machine.specs.Inputs.{numbered_value}
use Rattle.module_tables.proofs.model_tables.values_numbered.Given as goal

-- the values so far, and those of the numbers that are left
abbrev pub invariant-loop-number : goal.invariant-loop-number
invariant-loop-number l = record {
  whole : l.all ++ map (numbered_value l.values) (drop l.number-index l.order) ≡ map (numbered_value l.values) l.order;
  len : length l.all ≡ l.number-index;
}
