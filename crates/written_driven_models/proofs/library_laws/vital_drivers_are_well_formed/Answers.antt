use Rattle.written_driven_models.proofs.VitalDrivers.{vital_drivers_are_well_formed}
use Rattle.written_driven_models.proofs.library_laws.vital_drivers_are_well_formed.Goals as goal

pub returns : goal.returns
returns c = vital_drivers_are_well_formed
