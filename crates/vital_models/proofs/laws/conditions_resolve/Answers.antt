use Rattle.vital_models.proofs.CellLaws.{conditions_resolve-lem}
use Rattle.vital_models.proofs.laws.conditions_resolve.Goals as goal

pub returns : goal.returns
returns c = conditions_resolve-lem
