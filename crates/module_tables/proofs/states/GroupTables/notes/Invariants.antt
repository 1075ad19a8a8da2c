use Rattle.std.proofs.Common.{◌≡◌, ◌-◌, flat_map}
use Rattle.std.specs.List.{range_with_len}
use Rattle.cell_machine.specs.CellData.{data_of}
use Rattle.module_tables.specs.Lists.{trit_before}
use Rattle.module_tables.specs.Tables.{notes_by_old, notes_compared, first_difference}
use Rattle.module_tables.proofs.states.GroupTables.notes.Given as goal

-- the first one is among the rest
abbrev pub invariant-loop-k : goal.invariant-loop-k
invariant-loop-k l =
    first_difference (flat_map (λ k. notes_by_old (data_of l.self.cell.now) l.self.model.now l.self.group (trit_before k)) (range_with_len l.k (3 - l.k)))
    ≡ first_difference (notes_compared (data_of l.self.cell.now) l.self.model.now l.self.group)
