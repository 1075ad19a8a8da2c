use Rattle.generated_drivers.proofs.CoreNames.{cores_are_numbered}
use Rattle.generated_drivers.proofs.laws.cores_are_numbered.Goals as goal

pub returns : goal.returns
returns c = cores_are_numbered
