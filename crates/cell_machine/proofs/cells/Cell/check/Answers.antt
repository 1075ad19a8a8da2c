use Rattle.cell_machine.proofs.TimingFacts.{cell_check_facts}
use Rattle.cell_machine.proofs.cells.Cell.check.Goals as goal

pub returns-clause-facts : goal.returns-clause-facts
returns-clause-facts c = cell_check_facts c.args.self.now c.args.i c.entry.result.now c.entry.ensures.is
