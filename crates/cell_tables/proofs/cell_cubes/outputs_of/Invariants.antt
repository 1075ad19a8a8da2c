use Rattle.std.proofs.Common.{◌≡◌, [], ◌∷◌}
use Rattle.cell_machine.specs.CellData.{data_of}
use Rattle.udp_tables.specs.declared.parts.Part.TheVariants as part
use Rattle.udp_tables.specs.Edges.{each_below}
use Rattle.cell_tables.specs.Cubes.{cubes_of_part}
use Rattle.cell_tables.proofs.cell_cubes.outputs_of.Given as goal

abbrev pub invariant-loop-i : goal.invariant-loop-i
invariant-loop-i l = l.cubes ≡ each_below (λ i. cubes_of_part (data_of l.cell) (part.Output i) ∷ []) l.i
