use Rattle.cell_machine.proofs.TraceLemmas.{last_line-lem}
use Rattle.cell_machine.proofs.laws.last_line_is_of_history.Goals as goal

pub returns : goal.returns
returns c = last_line-lem
