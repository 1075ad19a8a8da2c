use Rattle.std.proofs.Common.{◌≡◌, map}
use Rattle.std.specs.List.{range_with_len}
use Rattle.trit_cubes.specs.Sets.{point_of}
use Rattle.cell_machine.specs.CellData.{data_of}
use Rattle.cell_machine.specs.CellTrace.{output_value_at}
use Rattle.scan_cells.proofs.output_table.output_values.Given as goal

-- the values at the points so far
abbrev pub invariant-loop-number : goal.invariant-loop-number
invariant-loop-number l =
    l.values ≡ map (λ k. output_value_at (data_of l.cell) l.output (point_of l.places k)) (range_with_len 0 l.number)
