use Rattle.model_traces.proofs.ModelAgreement.{generated-entities}
use Rattle.model_traces.proofs.laws.generated_entities_fit.Goals as goal

pub returns : goal.returns
returns c = generated-entities
