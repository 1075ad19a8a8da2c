use Rattle.std.proofs.Common.{sym}
use Rattle.selftest_cells.proofs.CellTexts.{flip_flop_statements}
use Rattle.selftest_cells.proofs.library.flip_flop.Goals as goal

pub returns : goal.returns
returns c = sym flip_flop_statements
