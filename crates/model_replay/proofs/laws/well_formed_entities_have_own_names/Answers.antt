use Rattle.model_replay.proofs.VitalModels.{own_names_beside}
use Rattle.model_replay.proofs.laws.well_formed_entities_have_own_names.Goals as goal

pub returns : goal.returns
returns c = own_names_beside
