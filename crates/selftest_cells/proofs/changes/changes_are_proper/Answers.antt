use Rattle.selftest_cells.proofs.ProperChanges.{all_proper}
use Rattle.selftest_cells.proofs.changes.changes_are_proper.Goals as goal

pub returns : goal.returns
returns c = all_proper
