use Rattle.selftest_runs.proofs.CountedCells.{counts_all}
use Rattle.selftest_runs.proofs.library.count_cells.Goals as goal

pub returns-clause-counts : goal.returns-clause-counts
returns-clause-counts g c =
    counts_all _ _ c.fold_cells.new.fold c.in_ok-fold_cells.field-0 c.in_ok-fold_cells.ensures.cells
