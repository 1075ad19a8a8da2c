-- What a library file is read as, or how it ends a run. This project's rules.
use Rattle.std.specs.Prelude.{List, Result, Ok, Err}
use Rattle.library_reader.specs.LibraryCells.{CellEntry}
use Rattle.library_reader.specs.declared.ending.NotWhole.{NotWhole}
use Rattle.library_reader.specs.declared.ending.NotWhole.TheVariants as not_whole
use Rattle.library_reader.specs.Endings.{library_limit}
use Rattle.library_reader.specs.KeptCells.{library_cells_within}
use Rattle.library_reader.specs.FaultLines.{library_fault_line, library_too_long_line}
use Rattle.run_outcome.specs.declared.status.Status.TheVariants as status
use Rattle.run_outcome.specs.FileSteps.{FileStop, FileAnswer}

-- how a library that is not whole ends a run
abbrev pub library_stop : NotWhole → FileStop
library_stop (not_whole.Fault fault) = record { status = status.Library; line = library_fault_line fault }
library_stop not_whole.TooLong = record { status = status.TooLong; line = library_too_long_line }

abbrev pub answer_by : Result (List CellEntry) NotWhole → Result (List CellEntry) FileStop
answer_by (Ok cells) = Ok cells
answer_by (Err why) = Err (library_stop why)

-- a library's cells, or how its bytes end a run
abbrev pub library_answer : FileAnswer (List CellEntry)
library_answer bytes = answer_by (library_cells_within library_limit bytes)
