use Rattle.vital_models.proofs.CellLaws.{states_are_machines-lem}
use Rattle.vital_models.proofs.laws.states_are_machines.Goals as goal

pub returns : goal.returns
returns c = states_are_machines-lem
