use Rattle.std.proofs.Common.{◌∙◌}
use Rattle.trit_cubes.specs.Sets.{point_of}
use Rattle.cell_machine.specs.CellData.{data_of}
use Rattle.step_tables.specs.GroupPoints.{steps_between}
use Rattle.step_tables.proofs.step_table.StepTable.turned_steps.Goals as goal

pub returns : goal.returns
returns c =
    let self = c.args.self.now in
    c.steps.ensures
    ∙ (λ i. steps_between (data_of self.cell.now) self.group (c.turned-before.ensures.is i) (point_of self.places c.args.after))
