use Rattle.generated_drivers.proofs.Fitting.{vital_drivers_fit}
use Rattle.generated_drivers.proofs.laws.vital_drivers_fit.Goals as goal

pub returns : goal.returns
returns c = vital_drivers_fit
