use Rattle.vital_models.proofs.RowLawLemmas.{state_rows_are_machine-lem}
use Rattle.vital_models.proofs.laws.state_rows_are_machine.Goals as goal

pub returns : goal.returns
returns c = state_rows_are_machine-lem
