use Rattle.std.proofs.Common.{◌≡◌, ◌++◌, map, drop}
use Rattle.udp_tables.specs.Edges.{kept_or_one}
use Rattle.cell_tables.specs.Cubes.{giving_cube, keeping_cube}
use Rattle.cell_tables.proofs.change_cubes.add_ones.Given as goal

abbrev pub invariant-loop-cube : goal.invariant-loop-cube
invariant-loop-cube l =
    l.cubes ++ map (kept_or_one (giving_cube l.place) (keeping_cube l.place) l.zeros) (drop l.cube-index l.ones)
    ≡ l.fn.cubes ++ map (kept_or_one (giving_cube l.place) (keeping_cube l.place) l.zeros) l.ones
