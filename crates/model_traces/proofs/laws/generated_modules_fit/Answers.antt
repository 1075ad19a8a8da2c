use Rattle.model_traces.proofs.ModelAgreement.{generated-modules}
use Rattle.model_traces.proofs.laws.generated_modules_fit.Goals as goal

pub returns : goal.returns
returns c = generated-modules
