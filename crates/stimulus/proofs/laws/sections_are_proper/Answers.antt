use Rattle.stimulus.proofs.Properness.{sections_proper}
use Rattle.stimulus.proofs.laws.sections_are_proper.Goals as goal

pub returns : goal.returns
returns c = sections_proper
