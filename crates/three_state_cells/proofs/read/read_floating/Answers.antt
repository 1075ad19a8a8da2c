use Rattle.std.proofs.Common.{◌∙◌, sym, subst}
use Rattle.cell_reader.specs.CellTexts.{Tells}
use Rattle.cell_reader.proofs.Reading.{lift_ok, lift_err}
use Rattle.three_state_cells.proofs.DataLemmas.{floating_data_is, floating_refusal_is}
use Rattle.three_state_cells.proofs.read.read_floating.Goals as goal

pub returns-clause-cell : goal.returns-clause-cell
returns-clause-cell c =
    let is =
    floating_data_is c.args.unit c.args.number c.args.cell.now c.in_ok-group.group c.args.pins.now c.requires.pins c.requires.some c.in_ok-group.ensures in
    lift_ok c.read_core.result _ _ (λ driven e. e ∙ is) c.read_core.ensures.cell

pub returns-clause-accepted : goal.returns-clause-accepted
returns-clause-accepted c =
    let is =
    floating_refusal_is c.args.unit c.args.earlier.now c.args.cell.now c.in_ok-group.group c.args.pins.now c.requires.pins c.requires.some
    c.in_ok-group.ensures in
    lift_ok c.read_core.result _ _ (λ driven e. sym is ∙ e) c.read_core.ensures.accepted

pub returns-clause-refused : goal.returns-clause-refused
returns-clause-refused c =
    let is =
    floating_refusal_is c.args.unit c.args.earlier.now c.args.cell.now c.in_ok-group.group c.args.pins.now c.requires.pins c.requires.some
    c.in_ok-group.ensures in
    lift_err c.read_core.result _ _ (λ fault e. subst (λ refusal. Tells refusal fault) is e) c.read_core.ensures.refused
