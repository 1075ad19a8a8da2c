use Rattle.cell_machine.proofs.TimeLemmas.{times_decide}
use Rattle.cell_machine.proofs.laws.times_decide_reports.Goals as goal

pub returns : goal.returns
returns c = times_decide
