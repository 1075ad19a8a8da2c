use Rattle.model_traces.proofs.RunLemmas.{run-stamps}
use Rattle.model_traces.proofs.laws.run_keeps_last_events.Goals as goal

pub returns : goal.returns
returns c = run-stamps
