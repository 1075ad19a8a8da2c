use Rattle.std.proofs.Common.{◌≡◌, ◌++◌, drop}
use Rattle.cell_machine.specs.CellData.{data_of}
use Rattle.specify_blocks.specs.Generated.{output_primitives}
use Rattle.specify_blocks.proofs.primitives.add_outputs.Given as goal

abbrev pub invariant-loop-i : goal.invariant-loop-i
invariant-loop-i l = l.udps ++ output_primitives (data_of l.from.cell.now) l.i (drop l.i l.from.cell.now.outputs) ≡ l.initial.udps ++ output_primitives (data_of l.from.cell.now) 0 l.from.cell.now.outputs
