use Rattle.vital_models.proofs.RowLawLemmas.{compact_rows_are_machine-lem}
use Rattle.vital_models.proofs.laws.compact_rows_are_machine.Goals as goal

pub returns : goal.returns
returns c = compact_rows_are_machine-lem
