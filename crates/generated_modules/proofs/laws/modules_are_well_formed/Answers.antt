use Rattle.generated_modules.proofs.ModuleLists.{modules-well-formed}
use Rattle.generated_modules.proofs.laws.modules_are_well_formed.Goals as goal

pub returns : goal.returns
returns c = modules-well-formed
