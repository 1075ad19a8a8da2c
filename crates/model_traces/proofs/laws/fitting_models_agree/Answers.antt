use Rattle.model_traces.proofs.ModelAgreement.{fitting-agree}
use Rattle.model_traces.proofs.laws.fitting_models_agree.Goals as goal

pub returns : goal.returns
returns c = fitting-agree
