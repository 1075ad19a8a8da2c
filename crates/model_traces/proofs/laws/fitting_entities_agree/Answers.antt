use Rattle.model_traces.proofs.EntityAgreement.{entities-agree}
use Rattle.model_traces.proofs.laws.fitting_entities_agree.Goals as goal

pub returns : goal.returns
returns c = entities-agree
