use Rattle.cell_machine.proofs.evaluation.condition_value.Goals as goal

pub returns : goal.returns
returns c = rw (← c.requires.names) (rw c.new-values.ensures at c.condition_from.ensures)
