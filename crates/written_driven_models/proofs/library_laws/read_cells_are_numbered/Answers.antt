use Rattle.written_driven_models.proofs.ReadCells.{read-cells-numbered}
use Rattle.written_driven_models.proofs.library_laws.read_cells_are_numbered.Goals as goal

pub returns : goal.returns
returns c = read-cells-numbered
