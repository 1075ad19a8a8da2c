use Rattle.model_replay.proofs.VitalModels.{own_names}
use Rattle.model_replay.proofs.laws.entities_have_own_names.Goals as goal

pub returns : goal.returns
returns c = own_names c.texts_are_well_formed.ensures
