use Rattle.std.proofs.Common.{sym, ◌∙◌}
use Rattle.cell_machine.specs.CellData.{data_of}
use Rattle.cell_machine.proofs.GroupSteps.{forced-at}
use Rattle.cell_machine.proofs.group_steps.forced.Goals as goal

pub returns : goal.returns
returns c =
    let filled = rw c.as_slice.ensures at c.forced_filled.ensures in
    filled
    ∙ sym (forced-at (data_of c.args.cell.now) c.args.group c.group-group.result.now c.state_name-name.result c.args.pins.now
    c.group-group.ensures.is c.group-group.ensures.facts c.state_name-name.ensures.name c.requires.pins)
