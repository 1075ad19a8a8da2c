use Rattle.generated_modules.proofs.Modules.{module-well-formed}
use Rattle.generated_modules.proofs.laws.module_is_well_formed.Goals as goal

pub returns : goal.returns
returns c = module-well-formed
