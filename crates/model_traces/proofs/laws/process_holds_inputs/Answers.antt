use Rattle.model_traces.proofs.ProcessLemmas.{process-inputs}
use Rattle.model_traces.proofs.laws.process_holds_inputs.Goals as goal

pub returns : goal.returns
returns c = process-inputs
