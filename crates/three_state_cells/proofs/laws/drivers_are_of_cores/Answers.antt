use Rattle.three_state_cells.proofs.CoreDrivers.{drivers_are_of_cores}
use Rattle.three_state_cells.proofs.laws.drivers_are_of_cores.Goals as goal

pub returns : goal.returns
returns c = drivers_are_of_cores
