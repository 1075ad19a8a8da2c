use Rattle.library_simulation.proofs.ReadyCells.{sections_can_be_compared}
use Rattle.library_simulation.proofs.laws.sections_can_be_compared.Goals as goal

pub returns : goal.returns
returns c = sections_can_be_compared
