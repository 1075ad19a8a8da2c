use Rattle.generated_modules.proofs.AcceptedCells.{accepted-of-one-library}
use Rattle.generated_modules.proofs.laws.accepted_are_of_one_library.Goals as goal

pub returns : goal.returns
returns c = accepted-of-one-library
