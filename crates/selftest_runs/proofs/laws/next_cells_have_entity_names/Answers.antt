use Rattle.selftest_runs.proofs.NamesAlone.{next_names}
use Rattle.selftest_runs.proofs.laws.next_cells_have_entity_names.Goals as goal

pub returns : goal.returns
returns c = next_names
