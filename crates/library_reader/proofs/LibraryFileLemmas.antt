-- The library file of a command at each exit of the call that reads it.
use Rattle.std.proofs.Common.{◌≡◌, ℕ, List, Option, Some, None, Result, Ok, Err, IfSome, refl, sym, ap}
use Rattle.std.specs.Prelude.{Vec}
use Rattle.text_io.specs.declared.slots.InSlot.TheVariants.{Library}
use Rattle.text_io.specs.Desk.{DeskState, opened, IsFileAt}
use Rattle.library_reader.specs.declared.library_cell.LibraryCell.{LibraryCell}
use Rattle.library_reader.specs.LibraryCells.{CellEntry, all_described}
use Rattle.library_reader.specs.declared.ending.NotWhole.{NotWhole}
use Rattle.library_reader.specs.Endings.{library_limit}
use Rattle.library_reader.specs.KeptCells.{library_cells_within, ReadsCells}
use Rattle.run_outcome.specs.declared.status.Status.{Status}
use Rattle.run_outcome.specs.FileSteps.{FileIsTaken, FileEndsRun, TellsStop}
use Rattle.run_outcome.proofs.FileStepLaws.{ends_as_told, read_as_value, read_ends}
use Rattle.library_reader.specs.LibraryAnswer.{library_stop, answer_by, library_answer}

-- what the bytes that are left come to is what they are read as
answered : (left : Option (List ℕ)) (r : Result (List CellEntry) NotWhole)
    → IfSome left (λ bytes. r ≡ library_cells_within library_limit bytes)
    → IfSome left (λ bytes. library_answer bytes ≡ answer_by r)
answered None r h = tt
answered (Some bytes) r h = ap answer_by (sym h)

-- its cells
pub cells_taken : {A : Type 0} (old mid new : DeskState) (place : ℕ) (bytes : List ℕ) (cells : Vec LibraryCell A)
    → IsFileAt old place bytes → mid ≡ opened old Library bytes → ReadsCells library_limit mid new (Ok (Ok cells))
    → FileIsTaken library_answer old new Library place (all_described cells.items)
cells_taken old mid new place bytes cells f e h =
    read_as_value library_answer old mid new Library place bytes h.taken (all_described cells.items) f e h.state
    (answered (mid.left Library) (Ok (all_described cells.items)) h.cells)

-- a library that is not whole was told
pub told_ends : {A : Type 0} (old mid now new : DeskState) (place : ℕ) (bytes : List ℕ) (why : NotWhole) (status : Status)
    → IsFileAt old place bytes → mid ≡ opened old Library bytes → ReadsCells {A = A} library_limit mid now (Ok (Err why))
    → TellsStop (library_stop why) now new status
    → FileEndsRun library_answer old new Library place status
told_ends old mid now new place bytes why status f e h t =
    read_ends library_answer old mid now new Library place bytes h.taken (answer_by (Err why)) status f e h.state
    (answered (mid.left Library) (Err why) h.cells)
    (ends_as_told (answer_by (Err why)) (library_stop why) now new status refl t)
