use Rattle.cell_machine.specs.CellData.{data_of}
use Rattle.cell_machine.specs.StepTables.{AreChangeTables}
use Rattle.cell_machine.proofs.Tables.{one_more_holds}
use Rattle.cell_machine.proofs.group_tables.step_tables.Goals as goal

pub loop-group-preserved : goal.loop-group-preserved
loop-group-preserved c =
    one_more_holds (AreChangeTables (data_of c.args.cell.now)) c.loop-group.group c.loop-group.tables _ c.in_ok-changes.changes
    c.loop-group.invariant c.in_ok-changes.ensures c.in_ok-push.ensures.ok
