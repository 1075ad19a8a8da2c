use Rattle.library_simulation.proofs.DescribedCells.{described_are_cells}
use Rattle.library_simulation.proofs.laws.described_are_cells.Goals as goal

pub returns : goal.returns
returns c = described_are_cells
