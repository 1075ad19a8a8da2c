use Rattle.std.proofs.Common.{◌≡◌, drop}
use Rattle.statetables.specs.Step.{row_of}
use Rattle.cell_machine.specs.Values.{picked}
use Rattle.cell_machine.proofs.steps.table_step.Given as goal

-- the first row that matches is among the rest
abbrev pub invariant-loop-row : goal.invariant-loop-row
invariant-loop-row l =
    row_of (drop l.row-index l.row-items) l.node (picked l.before l.inputs) (picked l.after l.inputs) l.state
    ≡ row_of l.table.rows l.node (picked l.before l.inputs) (picked l.after l.inputs) l.state
