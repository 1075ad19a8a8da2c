use Rattle.cell_tables.proofs.CellLaws.{groups_are_machines-lem}
use Rattle.cell_tables.proofs.laws.groups_are_machines.Goals as goal

pub returns : goal.returns
returns c = groups_are_machines-lem
