use Rattle.cell_machine.specs.CellData.{data_of}
use Rattle.cell_machine.specs.StepTables.{IsStep}
use Rattle.cell_machine.proofs.Tables.{HoldEach}
use Rattle.cell_machine.proofs.group_tables.change_tables.Given as goal

-- the steps so far
abbrev pub invariant-loop-input : goal.invariant-loop-input
invariant-loop-input l = HoldEach (IsStep (data_of l.cell) l.group) l.input l.tables
