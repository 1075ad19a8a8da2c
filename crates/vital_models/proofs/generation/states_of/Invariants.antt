use Rattle.std.proofs.Common.{◌≡◌, [], ◌∷◌}
use Rattle.vital_tables.specs.udp_tables.Edges.{each_below}
use Rattle.cell_machine.specs.CellData.{data_of}
use Rattle.vital_models.specs.Generated.{state_of}
use Rattle.vital_models.proofs.generation.states_of.Given as goal

abbrev pub invariant-loop-group : goal.invariant-loop-group
invariant-loop-group l = l.states ≡ each_below (λ g. state_of (data_of l.from.cell.now) g ∷ []) l.group
