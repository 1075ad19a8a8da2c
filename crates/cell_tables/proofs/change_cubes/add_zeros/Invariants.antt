use Rattle.std.proofs.Common.{◌≡◌, not, ◌++◌, map, drop}
use Rattle.std.specs.Prelude.{filter}
use Rattle.trit_cubes.specs.declared.trits.Trit.TheVariants.{Zero, One}
use Rattle.udp_tables.specs.Edges.{is_paired}
use Rattle.cell_tables.specs.Cubes.{giving_cube}
use Rattle.cell_tables.proofs.change_cubes.add_zeros.Given as goal

abbrev pub invariant-loop-cube : goal.invariant-loop-cube
invariant-loop-cube l =
    l.cubes ++ map (giving_cube l.place Zero) (filter (λ c. not (is_paired Zero One l.ones c)) (drop l.cube-index l.zeros))
    ≡ l.fn.cubes ++ map (giving_cube l.place Zero) (filter (λ c. not (is_paired Zero One l.ones c)) l.zeros)
