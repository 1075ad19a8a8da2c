use Rattle.vital_models.proofs.TruthRows.{truth_rows-resolve}
use Rattle.vital_models.proofs.laws.truth_rows_resolve.Goals as goal

pub returns : goal.returns
returns c = truth_rows-resolve
