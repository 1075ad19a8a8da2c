use Rattle.model_traces.proofs.ModelAgreement.{models-agree}
use Rattle.model_traces.proofs.laws.models_agree.Goals as goal

pub returns : goal.returns
returns c = models-agree
