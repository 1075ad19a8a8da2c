use Rattle.std.proofs.Common.{sym}
use Rattle.selftest_cells.proofs.CellTexts.{clock_gate_statements}
use Rattle.selftest_cells.proofs.library.clock_gate.Goals as goal

pub returns : goal.returns
returns c = sym clock_gate_statements
