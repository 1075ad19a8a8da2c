use Rattle.cell_machine.specs.CellData.{data_of}
use Rattle.cell_machine.specs.StepTables.{AreChangeTables}
use Rattle.cell_machine.proofs.Tables.{HoldEach}
use Rattle.cell_machine.proofs.group_tables.step_tables.Given as goal

-- the tables so far
abbrev pub invariant-loop-group : goal.invariant-loop-group
invariant-loop-group l = HoldEach (AreChangeTables (data_of l.cell)) l.group l.tables
