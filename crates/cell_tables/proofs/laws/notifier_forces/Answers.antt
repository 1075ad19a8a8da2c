use Rattle.cell_tables.proofs.LawLemmas.{notifier_forces-lem}
use Rattle.cell_tables.proofs.laws.notifier_forces.Goals as goal

pub returns : goal.returns
returns c = notifier_forces-lem
