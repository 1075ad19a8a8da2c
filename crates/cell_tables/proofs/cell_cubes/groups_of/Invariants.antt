use Rattle.std.proofs.Common.{◌≡◌, [], ◌∷◌}
use Rattle.cell_machine.specs.CellData.{data_of}
use Rattle.udp_tables.specs.Edges.{each_below}
use Rattle.cell_tables.specs.Cubes.{cubes_of_group}
use Rattle.cell_tables.proofs.cell_cubes.groups_of.Given as goal

abbrev pub invariant-loop-group : goal.invariant-loop-group
invariant-loop-group l = l.cubes ≡ each_below (λ g. cubes_of_group (data_of l.cell) g ∷ []) l.group
