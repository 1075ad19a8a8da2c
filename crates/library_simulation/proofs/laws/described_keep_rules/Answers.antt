use Rattle.library_simulation.proofs.DescribedCells.{described_keep_rules}
use Rattle.library_simulation.proofs.laws.described_keep_rules.Goals as goal

pub returns : goal.returns
returns c = described_keep_rules
