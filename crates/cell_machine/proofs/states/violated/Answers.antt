use Rattle.std.proofs.Common.{sym, ◌∙◌, length, ◌+◌, ◌*◌}
use Rattle.cell_machine.specs.Names.{state_name}
use Rattle.cell_machine.specs.CellTrace.{violated}
use Rattle.cell_machine.proofs.GroupSteps.{violated-filled, of-held}
use Rattle.cell_machine.proofs.states.violated.Goals as goal

pub returns : goal.returns
returns c = λ group e.
    let pins = c.args.cell.now.pins in
    let held = c.group-group.result.now in
    let name = state_name (length pins) c.args.i in
    let values = rw (c.support_values-values.ensures, c.as_slice.ensures, c.as_slice-support.ensures) at c.as_slice-2.ensures in
    let filled = rw (values, c.as_slice-support.ensures, c.state_name.ensures.name) at c.forced_filled.ensures in
    of-held c.args.cell.now.groups c.args.i held group (λ g. violated pins (record { name = name; group = g }) c.args.inputs.now) c.group-group.ensures.is e
    (filled ∙ sym (violated-filled pins name held c.args.inputs.now (length pins + 2 * c.args.i) c.group-group.ensures.facts))
