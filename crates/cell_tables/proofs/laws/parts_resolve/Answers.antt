use Rattle.cell_tables.proofs.CellLaws.{parts_resolve-lem}
use Rattle.cell_tables.proofs.laws.parts_resolve.Goals as goal

pub returns : goal.returns
returns c = parts_resolve-lem
