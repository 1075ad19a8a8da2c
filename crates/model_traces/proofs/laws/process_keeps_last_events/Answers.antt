use Rattle.model_traces.proofs.ProcessLemmas.{process-times}
use Rattle.model_traces.proofs.laws.process_keeps_last_events.Goals as goal

pub returns : goal.returns
returns c = process-times
