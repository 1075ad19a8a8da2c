use Rattle.written_driven_models.proofs.ApartDrivers.{well_formed}
use Rattle.written_driven_models.proofs.text_laws.drivers_apart_are_well_formed.Goals as goal

pub returns : goal.returns
returns c = λ es drivers h o apart. well_formed es drivers h o apart
