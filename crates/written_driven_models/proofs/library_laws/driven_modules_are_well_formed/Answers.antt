use Rattle.written_driven_models.proofs.ModuleDrivers.{well-formed-together}
use Rattle.written_driven_models.proofs.library_laws.driven_modules_are_well_formed.Goals as goal

pub returns : goal.returns
returns c = well-formed-together
