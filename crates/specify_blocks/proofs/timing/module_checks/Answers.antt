use Rattle.std.proofs.Common.{◌≡◌, map, subst, IfOk}
use Rattle.cell_machine.specs.CellData.{data_of}
use Rattle.udp_tables.specs.TimingChecks.{check_behind}
use Rattle.specify_blocks.proofs.timing.module_checks.Goals as goal

pub returns : goal.returns
returns c =
    subst (λ before. IfOk c.checks_of.result (λ checks. checks ≡ map (check_behind before (data_of c.args.from.now.cell.now)) c.args.from.now.cell.now.checks))
    c.len.ensures c.checks_of.ensures
