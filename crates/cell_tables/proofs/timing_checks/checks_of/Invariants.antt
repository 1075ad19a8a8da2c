use Rattle.std.proofs.Common.{◌≡◌, ◌++◌, map, drop}
use Rattle.cell_machine.specs.CellData.{data_of}
use Rattle.udp_tables.specs.TimingChecks.{check_behind}
use Rattle.cell_tables.proofs.timing_checks.checks_of.Given as goal

abbrev pub invariant-loop-check : goal.invariant-loop-check
invariant-loop-check l =
    l.checks ++ map (check_behind l.before (data_of l.from.cell.now)) (drop l.check-index l.from.cell.now.checks)
    ≡ map (check_behind l.before (data_of l.from.cell.now)) l.from.cell.now.checks
