use Rattle.model_traces.proofs.ProcessLemmas.{earlier-first}
use Rattle.model_traces.proofs.laws.earlier_time_is_first.Goals as goal

pub returns : goal.returns
returns c = earlier-first
