use Rattle.std.proofs.Common.{◌≡◌, length}
use Rattle.cell_machine.specs.CellData.{data_of}
use Rattle.cell_machine.specs.CellTrace.{support_at, step_at}
use Rattle.udp_tables.specs.Edges.{each_below}
use Rattle.cell_tables.specs.Cubes.{input_cubes}
use Rattle.cell_tables.proofs.group_cubes.change_cubes.Given as goal

abbrev pub invariant-loop-place : goal.invariant-loop-place
invariant-loop-place l =
    l.cubes ≡ each_below (input_cubes (step_at (data_of l.steps.cell.now) l.steps.group) (length (support_at (data_of l.steps.cell.now) l.steps.group))) l.place
