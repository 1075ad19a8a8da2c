use Rattle.model_traces.proofs.ProcessLemmas.{later-second}
use Rattle.model_traces.proofs.laws.later_event_is_second.Goals as goal

pub returns : goal.returns
returns c = later-second
