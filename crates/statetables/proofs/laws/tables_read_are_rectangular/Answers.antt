use Rattle.statetables.proofs.Widths.{tables_read}
use Rattle.statetables.proofs.laws.tables_read_are_rectangular.Goals as goal

pub returns : goal.returns
returns c = tables_read
