use Rattle.std.proofs.Common.{◌≡◌}
use Rattle.cell_machine.specs.Machine.{forced_at}
use Rattle.cell_machine.specs.CellData.{data_of}
use Rattle.cell_machine.specs.CellTrace.{step_at}
use Rattle.cell_tables.proofs.NumberedValues.{numbered}
use Rattle.cell_tables.proofs.group_cubes.forced_values.Given as goal

-- the values at the points so far
abbrev pub invariant-loop-number : goal.invariant-loop-number
invariant-loop-number l = l.values.items ≡ numbered l.steps.places (forced_at (step_at (data_of l.steps.cell.now) l.steps.group)) l.number
