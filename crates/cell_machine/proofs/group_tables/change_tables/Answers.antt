use Rattle.cell_machine.specs.CellData.{data_of}
use Rattle.cell_machine.specs.StepTables.{IsStep}
use Rattle.cell_machine.proofs.Tables.{one_more_holds}
use Rattle.cell_machine.proofs.group_tables.change_tables.Goals as goal

pub loop-input-preserved : goal.loop-input-preserved
loop-input-preserved c =
    one_more_holds (IsStep (data_of c.args.cell.now) c.args.group) c.loop-input.input c.loop-input.tables _ c.in_ok-step.step
    c.loop-input.invariant c.in_ok-step.ensures c.in_ok-push.ensures.ok
