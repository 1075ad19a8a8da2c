use Rattle.std.proofs.Common.{◌≡◌, map}
use Rattle.std.specs.List.{range_with_len}
use Rattle.trit_cubes.specs.Sets.{point_of}
use Rattle.cell_machine.specs.CellData.{data_of}
use Rattle.step_tables.specs.GroupPoints.{point_at}
use Rattle.step_tables.proofs.group_points.points_by.Given as goal

-- what the group does at the points so far
abbrev pub invariant-loop-number : goal.invariant-loop-number
invariant-loop-number l =
    l.points ≡ map (λ k. point_at (data_of l.cell) l.group l.low (point_of l.places k)) (range_with_len 0 l.number)
