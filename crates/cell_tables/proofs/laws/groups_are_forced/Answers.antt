use Rattle.cell_tables.proofs.CellLaws.{groups_are_forced-lem}
use Rattle.cell_tables.proofs.laws.groups_are_forced.Goals as goal

pub returns : goal.returns
returns c = groups_are_forced-lem
