use Rattle.selftest_runs.proofs.OwnLibraries.{library_bound, own_counted}
use Rattle.selftest_runs.proofs.own.selftest_counts.Goals as goal

pub count_cells-requires : goal.count_cells-requires
count_cells-requires c = library_bound _ _ c.in_ok-library.ensures.state

pub returns-in-Ok : goal.returns-in-Ok
returns-in-Ok c = own_counted c.args.cells _ _ _ c.in_ok-library.ensures.state c.in-Ok.ensures.counts
