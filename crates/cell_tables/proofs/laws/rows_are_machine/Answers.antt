use Rattle.cell_tables.proofs.LawLemmas.{rows_are_machine-lem}
use Rattle.cell_tables.proofs.laws.rows_are_machine.Goals as goal

pub returns : goal.returns
returns c = rows_are_machine-lem
