use Rattle.std.proofs.Common.{◌≡◌, ◌++◌, map, drop}
use Rattle.cell_machine.specs.CellData.{data_of}
use Rattle.vital_models.specs.Generated.{output_of}
use Rattle.vital_models.proofs.generation.outputs_of.Given as goal

abbrev pub invariant-loop-i : goal.invariant-loop-i
invariant-loop-i l =
    l.outputs ++ map (output_of (data_of l.from.cell.now)) (drop l.i l.from.cell.now.outputs) ≡ map (output_of (data_of l.from.cell.now)) l.from.cell.now.outputs
