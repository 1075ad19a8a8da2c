use Rattle.vital_models.proofs.CellLaws.{outputs_resolve-lem}
use Rattle.vital_models.proofs.laws.outputs_resolve.Goals as goal

pub returns : goal.returns
returns c = outputs_resolve-lem
