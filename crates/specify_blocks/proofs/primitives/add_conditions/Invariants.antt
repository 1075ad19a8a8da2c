use Rattle.std.proofs.Common.{◌≡◌, [], ◌∷◌, ◌++◌}
use Rattle.udp_tables.specs.Edges.{each_below}
use Rattle.cell_machine.specs.CellData.{data_of}
use Rattle.udp_tables.specs.CellPrimitives.{condition_primitive}
use Rattle.specify_blocks.proofs.primitives.add_conditions.Given as goal

abbrev pub invariant-loop-condition : goal.invariant-loop-condition
invariant-loop-condition l = l.udps ≡ l.initial.udps ++ each_below (λ i. condition_primitive (data_of l.from.cell.now) i ∷ []) l.condition
