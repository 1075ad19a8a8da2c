use Rattle.generated_modules.proofs.AcceptedCells.{accepted-well-formed}
use Rattle.generated_modules.proofs.laws.accepted_modules_are_well_formed.Goals as goal

pub returns : goal.returns
returns c = accepted-well-formed
