use Rattle.model_traces.proofs.ProcessLemmas.{process-columns}
use Rattle.model_traces.proofs.laws.process_keeps_columns.Goals as goal

pub returns : goal.returns
returns c = process-columns
