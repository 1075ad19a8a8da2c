use Rattle.std.proofs.Common.{◌≡◌, ◌+◌, ◌≤◌, ◌++◌, drop}
use Rattle.cell_machine.specs.CellData.{data_of}
use Rattle.specify_blocks.specs.Generated.{output_instances}
use Rattle.specify_blocks.proofs.instances.add_outputs.Given as goal

abbrev pub invariant-loop-i : goal.invariant-loop-i
invariant-loop-i l = record {
  so_far : l.instances ++ output_instances (data_of l.cell) l.next (drop l.i l.cell.outputs) ≡ l.initial.instances ++ output_instances (data_of l.cell) l.initial.next l.cell.outputs;
  bounded : l.next ≤ l.initial.next + l.i;
}
