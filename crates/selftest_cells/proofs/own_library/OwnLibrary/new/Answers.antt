use Rattle.std.proofs.Common.{ap}
use Rattle.selftest_cells.specs.Reading.{reads_library}
use Rattle.selftest_cells.proofs.LibraryText.{read_from_start}
use Rattle.selftest_cells.proofs.own_library.OwnLibrary.new.Goals as goal

pub returns : goal.returns
returns c = record { state = ap reads_library (read_from_start _ c.args.cells c.in_ok-front.ensures) }
