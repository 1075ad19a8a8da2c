use Rattle.written_driven_models.proofs.KeptApart.{read_back}
use Rattle.written_driven_models.specs.Vital.{written_vital, well_formed_vital}
use Rattle.written_driven_models.proofs.VitalPieces.{pieces}
use Rattle.written_driven_models.proofs.text_laws.driven_entities_read_back.Goals as goal

pub returns : goal.returns
returns c = λ xs h k. read_back written_vital well_formed_vital pieces xs h k
