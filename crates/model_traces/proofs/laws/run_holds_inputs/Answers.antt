use Rattle.model_traces.proofs.RunLemmas.{run-inputs}
use Rattle.model_traces.proofs.laws.run_holds_inputs.Goals as goal

pub returns : goal.returns
returns c = run-inputs
