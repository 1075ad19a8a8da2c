use Rattle.std.proofs.Common.{◌≡◌, suc}
use Rattle.cell_machine.specs.Machine.{edge_value}
use Rattle.cell_machine.specs.CellData.{data_of}
use Rattle.cell_machine.specs.CellTrace.{step_at}
use Rattle.cell_tables.proofs.NumberedValues.{numbered}
use Rattle.cell_tables.proofs.change_cubes.change_values.Given as goal

-- the values at the points so far
abbrev pub invariant-loop-number : goal.invariant-loop-number
invariant-loop-number l = l.values.items ≡ numbered (suc (suc l.steps.places)) (edge_value (step_at (data_of l.steps.cell.now) l.steps.group) l.place) l.number
