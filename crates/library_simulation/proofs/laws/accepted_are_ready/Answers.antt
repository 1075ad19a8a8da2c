use Rattle.library_simulation.proofs.GeneratedModels.{accepted_are_ready}
use Rattle.library_simulation.proofs.laws.accepted_are_ready.Goals as goal

pub returns : goal.returns
returns c = accepted_are_ready
