use Rattle.std.proofs.Common.{◌≡◌, ◌-◌, flat_map}
use Rattle.std.specs.List.{range_with_len}
use Rattle.cell_machine.specs.CellData.{data_of}
use Rattle.module_tables.specs.Tables.{steps_by_old, steps_compared, first_difference}
use Rattle.module_tables.proofs.states.GroupTables.steps.Given as goal

-- the first one is among the rest
abbrev pub invariant-loop-place : goal.invariant-loop-place
invariant-loop-place l =
    first_difference (flat_map (steps_by_old (data_of l.self.cell.now) l.self.model.now l.self.group) (range_with_len l.place (l.pins - l.place)))
    ≡ first_difference (steps_compared (data_of l.self.cell.now) l.self.model.now l.self.group)
