use Rattle.written_driven_models.proofs.ReadCells.{distinct-of-one-library}
use Rattle.written_driven_models.proofs.library_laws.distinct_cells_are_of_one_library.Goals as goal

pub returns : goal.returns
returns c = distinct-of-one-library
