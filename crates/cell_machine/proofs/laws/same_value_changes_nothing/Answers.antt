use Rattle.cell_machine.proofs.StillLemmas.{same_value-lem}
use Rattle.cell_machine.proofs.laws.same_value_changes_nothing.Goals as goal

pub returns : goal.returns
returns c = same_value-lem
