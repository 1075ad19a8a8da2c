use Rattle.std.proofs.Common.{◌∙◌, sym, subst}
use Rattle.cell_reader.specs.CellTexts.{Tells}
use Rattle.three_state_cells.specs.Refusals.{driven_refusal}
use Rattle.three_state_cells.proofs.DataLemmas.{plain_as, plain_refusal, err_told}
use Rattle.three_state_cells.proofs.read.read_undriven.Goals as goal

pub returns-in_err-read-clause-refused : goal.returns-in_err-read-clause-refused
returns-in_err-read-clause-refused c =
    err_told c.from_residual.result c.in_err-read.field-0.0 (Tells (driven_refusal c.args.unit c.args.earlier.now c.args.cell.now)) c.from_residual.ensures.1
    (subst (λ refusal. Tells refusal c.in_err-read.field-0.0) (plain_refusal c.args.unit c.args.earlier.now c.args.cell.now c.requires)
    c.in_err-read.ensures.refused)

pub returns-clause-cell : goal.returns-clause-cell
returns-clause-cell c =
    plain_as c.args.unit c.args.number c.args.cell.now c.in_ok-read.read c.in_ok-plain_cell.field-0 c.requires c.in_ok-read.ensures.cell
    c.in_ok-read.ensures.left_out c.in_ok-plain_cell.ensures

pub returns-clause-accepted : goal.returns-clause-accepted
returns-clause-accepted c =
    sym (plain_refusal c.args.unit c.args.earlier.now c.args.cell.now c.requires) ∙ c.in_ok-read.ensures.accepted
