use Rattle.std.proofs.Common.{sym}
use Rattle.selftest_cells.proofs.CellTexts.{latch_statements}
use Rattle.selftest_cells.proofs.library.latch.Goals as goal

pub returns : goal.returns
returns c = sym latch_statements
