use Rattle.cell_machine.proofs.TimingFacts.{cell_arc_bounded}
use Rattle.cell_machine.proofs.cells.Cell.arc.Goals as goal

pub returns-clause-bounded : goal.returns-clause-bounded
returns-clause-bounded c = cell_arc_bounded c.args.self.now c.args.i c.entry.result.now c.entry.ensures.is
