use Rattle.model_traces.proofs.ModuleAgreement.{modules-agree}
use Rattle.model_traces.proofs.laws.fitting_modules_agree.Goals as goal

pub returns : goal.returns
returns c = modules-agree
