use Rattle.cell_tables.proofs.CellLaws.{conditions_are_numbered-lem}
use Rattle.cell_tables.proofs.laws.conditions_are_numbered.Goals as goal

pub returns : goal.returns
returns c = conditions_are_numbered-lem
