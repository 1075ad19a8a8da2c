use Rattle.std.proofs.Common.{◌≡◌, ◌<◌, ℕ, true}
use Rattle.trit_cubes.specs.Sets.{point_of}
use Rattle.cell_machine.specs.CellData.{data_of}
use Rattle.step_tables.specs.GroupPoints.{clock_at}
use Rattle.step_tables.proofs.group_points.low_point.Given as goal

-- the clock is 1 at the points so far
abbrev pub invariant-loop-number : goal.invariant-loop-number
invariant-loop-number l = (k : ℕ) → k < l.number → clock_at (data_of l.cell) l.group (point_of l.places k) ≡ true
