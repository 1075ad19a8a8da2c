use Rattle.selftest_cells.proofs.Writable.{cell_writable, library_writable}
use Rattle.selftest_cells.proofs.library.are_writable.Goals as goal

pub returns : goal.returns
returns c = record { library_is = library_writable; cell_is = cell_writable 28 }
