use Rattle.std.proofs.Common.{◌≡◌, ◌-◌, flat_map}
use Rattle.std.specs.List.{range_with_len}
use Rattle.cell_machine.specs.CellData.{data_of}
use Rattle.module_tables.specs.Tables.{compared_at, part_compared, first_difference}
use Rattle.module_tables.proofs.differences.AuditPart.first.Given as goal

-- the first one is among the rest
abbrev pub invariant-loop-number : goal.invariant-loop-number
invariant-loop-number l =
    first_difference (flat_map (compared_at (data_of l.cell) l.model l.self) (range_with_len l.number (l.count - l.number)))
    ≡ first_difference (part_compared (data_of l.cell) l.model l.self)
