use Rattle.std.proofs.Common.{◌≡◌, ◌++◌, drop}
use Rattle.std.specs.Prelude.{filter}
use Rattle.udp_tables.specs.Edges.{moves}
use Rattle.cell_tables.proofs.change_cubes.moving_cubes.Given as goal

abbrev pub invariant-loop-cube : goal.invariant-loop-cube
invariant-loop-cube l = l.moving.items ++ filter moves (drop l.cube-index l.cubes) ≡ filter moves l.cubes
