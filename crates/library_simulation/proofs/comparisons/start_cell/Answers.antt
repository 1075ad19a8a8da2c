use Rattle.std.proofs.Common.{◌≡◌, IfOk, subst}
use Rattle.driven_traces.specs.DrivenLines.{driven_machine}
use Rattle.cell_machine.specs.CellData.{data_of}
use Rattle.cell_machine.specs.CellTrace.{cell_machine_of}
use Rattle.library_simulation.proofs.comparisons.start_cell.Goals as goal

pub returns-clause-machine : goal.returns-clause-machine
returns-clause-machine c =
    subst (λ core. IfOk c.over.result (λ sim. driven_machine sim.driver.now (cell_machine_of (data_of sim.core.cell.now)) ≡ driven_machine c.args.cell.now.driver core))
    c.in_ok-core.ensures.machine c.over.ensures.machine
