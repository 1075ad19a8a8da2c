use Rattle.std.proofs.Common.{◌≡◌, [], ◌∷◌, ◌++◌}
use Rattle.udp_tables.specs.Edges.{each_below}
use Rattle.cell_machine.specs.CellData.{data_of}
use Rattle.udp_tables.specs.CellPrimitives.{group_primitive}
use Rattle.specify_blocks.proofs.primitives.add_groups.Given as goal

abbrev pub invariant-loop-group : goal.invariant-loop-group
invariant-loop-group l = l.udps ≡ l.initial.udps ++ each_below (λ g. group_primitive (data_of l.from.cell.now) g ∷ []) l.group
