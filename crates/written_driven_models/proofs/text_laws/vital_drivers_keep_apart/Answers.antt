use Rattle.written_driven_models.proofs.KeptApart.{kept_apart}
use Rattle.written_driven_models.specs.Vital.{written_vital, well_formed_vital}
use Rattle.written_driven_models.proofs.VitalPieces.{pieces}
use Rattle.written_driven_models.proofs.text_laws.vital_drivers_keep_apart.Goals as goal

pub returns : goal.returns
returns c = λ xs h k. kept_apart written_vital well_formed_vital pieces xs h k
