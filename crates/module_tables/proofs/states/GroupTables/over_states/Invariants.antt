use Rattle.std.proofs.Common.{◌≡◌, ◌-◌, flat_map}
use Rattle.std.specs.List.{range_with_len}
use Rattle.cell_machine.specs.CellData.{data_of}
use Rattle.module_tables.specs.Lists.{trit_numbered}
use Rattle.module_tables.specs.Tables.{steps_by_note, steps_by_state, first_difference}
use Rattle.module_tables.proofs.states.GroupTables.over_states.Given as goal

-- the first one is among the rest
abbrev pub invariant-loop-k : goal.invariant-loop-k
invariant-loop-k l =
    first_difference (flat_map (λ k. steps_by_note (data_of l.self.cell.now) l.self.model.now l.self.group l.change.place l.change.old l.change.values.now (trit_numbered k)) (range_with_len l.k (3 - l.k)))
    ≡ first_difference (steps_by_state (data_of l.self.cell.now) l.self.model.now l.self.group l.change.place l.change.old l.change.values.now)
