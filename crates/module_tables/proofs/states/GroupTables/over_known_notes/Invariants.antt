use Rattle.std.proofs.Common.{◌≡◌, ◌-◌, true, [], ◌∷◌, flat_map, map}
use Rattle.std.specs.List.{range_with_len}
use Rattle.cell_machine.specs.CellData.{data_of}
use Rattle.std.specs.Prelude.{Some}
use Rattle.module_tables.specs.Lists.{trit_numbered}
use Rattle.module_tables.specs.Tables.{step_compared, notes, first_difference}
use Rattle.module_tables.proofs.states.GroupTables.over_known_notes.Given as goal

-- the first one is among the rest
abbrev pub invariant-loop-k : goal.invariant-loop-k
invariant-loop-k l =
    first_difference (flat_map (λ k. step_compared (data_of l.self.cell.now) l.self.model.now l.self.group l.change.place l.change.old l.change.values.now l.state (Some (trit_numbered k)) ∷ []) (range_with_len l.k (3 - l.k)))
    ≡ first_difference (map (step_compared (data_of l.self.cell.now) l.self.model.now l.self.group l.change.place l.change.old l.change.values.now l.state) (notes true))
