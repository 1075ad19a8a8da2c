use Rattle.written_driven_models.proofs.CellsHaveDrivers.{read_cells_have_drivers}
use Rattle.written_driven_models.proofs.library_laws.read_cells_have_drivers.Goals as goal

pub returns : goal.returns
returns c = read_cells_have_drivers
