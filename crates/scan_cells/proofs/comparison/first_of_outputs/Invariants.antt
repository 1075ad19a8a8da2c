use Rattle.std.proofs.Common.{◌≡◌, ◌-◌, length}
use Rattle.std.specs.List.{range_with_len}
use Rattle.cell_machine.specs.CellData.{data_of}
use Rattle.scan_cells.specs.Views.{view_data}
use Rattle.scan_cells.specs.Comparison.{first_some, output_difference}
use Rattle.scan_cells.proofs.comparison.first_of_outputs.Given as goal

-- the first one is among the rest
abbrev pub invariant-loop-output : goal.invariant-loop-output
invariant-loop-output l =
    first_some (output_difference (data_of l.cell) (view_data l.view)) (range_with_len l.output (length l.cell.outputs - l.output))
    ≡ first_some (output_difference (data_of l.cell) (view_data l.view)) (range_with_len 0 (length l.cell.outputs))
