use Rattle.stimulus.proofs.Entries.{inputs_below}
use Rattle.stimulus.proofs.laws.ports_are_inputs.Goals as goal

pub returns : goal.returns
returns c = inputs_below
