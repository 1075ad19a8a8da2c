use Rattle.cell_machine.proofs.OutputFacts.{cell_output_facts}
use Rattle.cell_machine.proofs.cells.Cell.output_pin.Goals as goal

pub returns-clause-facts : goal.returns-clause-facts
returns-clause-facts c = cell_output_facts c.args.self.now c.args.i c.entry.result.now c.entry.ensures.is
