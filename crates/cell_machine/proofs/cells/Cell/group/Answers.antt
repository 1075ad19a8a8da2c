use Rattle.cell_machine.proofs.CellFacts.{cell_group_facts}
use Rattle.cell_machine.proofs.cells.Cell.group.Goals as goal

pub returns-clause-facts : goal.returns-clause-facts
returns-clause-facts c = cell_group_facts c.args.self.now c.args.i c.entry.result.now c.entry.ensures.is
