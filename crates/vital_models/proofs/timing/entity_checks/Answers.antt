use Rattle.std.proofs.Common.{◌≡◌, subst, IfOk}
use Rattle.cell_machine.specs.CellData.{data_of}
use Rattle.vital_models.proofs.CheckNumbers.{checks_alone}
use Rattle.vital_models.proofs.timing.entity_checks.Goals as goal

pub returns : goal.returns
returns c =
    subst (λ wanted. IfOk c.checks_of.result (λ checks. checks ≡ wanted)) (checks_alone (data_of c.args.from.now.cell.now) c.args.from.now.cell.now.checks)
    c.checks_of.ensures
