-- Going over the items of a library: what is written for each, and what is made of the cells. This project's rules.
use Rattle.std.specs.Prelude.{◌≡◌, ℕ, ◌+◌, ◌<◌, List, Option, Result, IfOk, IfSome, IsTrue}
use Rattle.std.specs.List.{AllByRecursion}
use Rattle.bool_functions.specs.NameList.{AreDistinct}
use Rattle.liberty_groups.specs.declared.tree.Group.{Group}
use Rattle.text_io.specs.declared.slots.InSlot.TheVariants.{Library}
use Rattle.text_io.specs.declared.slots.OutSlot.{OutSlot}
use Rattle.text_io.specs.declared.slots.Slot.TheVariants.{Output}
use Rattle.text_io.specs.declared.stop.Stop.{Stop}
use Rattle.text_io.specs.Desk.{DeskState, is_bound, took}
use Rattle.run_outcome.specs.Written.{Written, IsPart, wrote_all}
use Rattle.cell_cursor.specs.Ends.{items_within}
use Rattle.cell_cursor.specs.Given.{IsFrontOf}
use Rattle.cell_cursor.specs.declared.item.LibraryItem.{LibraryItem}
use Rattle.library_reader.specs.declared.ending.Ending.{Ending}
use Rattle.library_reader.specs.declared.next.NextCell.{NextCell}
use Rattle.library_reader.specs.declared.progress.Progress.{Progress}
use Rattle.library_reader.specs.Endings.{ending_of}
use Rattle.library_reader.specs.KeptCells.{kept_cells}
use Rattle.library_reader.specs.LibraryCells.{CellEntry, cell_names}
use Rattle.library_reader.specs.NextCells.{IsNext}
use Rattle.library_reader.specs.Progress.{no_progress, progress_after}
use Rattle.library_reader.specs.WrittenItems.{written_for_all, HoldsCells}

-- these outputs are bound
abbrev pub AreBound : DeskState → List OutSlot → Type 0
AreBound s slots = AllByRecursion (λ slot. IsTrue (is_bound s (Output slot))) slots

-- the number of the next cell is below 2 to the 31st: no library has so many bytes
abbrev pub IsNumbered : Progress → Type 0
IsNumbered p = p.accepted + p.refused + 1 < 2147483648

-- this is the next cell, with such a number
pub record IsNumberedNext (p : Progress) (group : Group) (next : NextCell) : Type 0 where
  pub numbered : IsNumbered p
  pub is : IsNext p group next

-- All is written that is written for these items, and this is made of the cells that are kept of them, which have names of their
-- own. Where the bytes of the library are told, the items are all of its items, and it ends so.
pub record IsWholeFold (each : Progress → LibraryItem → Written) (Made : List CellEntry
    → Type 0) (limit : ℕ) (left : Option (List ℕ)) (after : Progress) (items : List LibraryItem) (text : Written)
    (ending : Ending) : Type 0 where
  pub same_text : text ≡ written_for_all each no_progress items
  pub same_progress : after ≡ progress_after no_progress items
  pub made : Made (kept_cells no_progress items)
  pub own : AreDistinct (cell_names (kept_cells no_progress items))
  pub told : IfSome left (λ bytes. (items ≡ items_within limit bytes) × (ending ≡ ending_of limit bytes))

-- After a call that goes over the items of the library that is bound: some bytes of it were taken, a part was written of what is
-- written for these items, which are the first ones of the library where its bytes are told, and nothing else changed. However
-- the call ended, all is written for the cells that ended well before the last byte taken. The answer is how the library ends.
pub record FoldsItems (each : Progress → LibraryItem → Written) (Made : List CellEntry → Type 0) (limit : ℕ) (old new : DeskState)
    (after : Progress) (result : Result Ending Stop) : Type 0 where
  pub taken : ℕ
  pub items : List LibraryItem
  pub text : Written
  pub state : new ≡ wrote_all (took old Library taken) text
  pub part : IsPart text (written_for_all each no_progress items)
  pub first : IfSome (old.left Library) (λ bytes. IsFrontOf items (items_within limit bytes))
  pub cells : IfSome (old.left Library) (λ bytes. HoldsCells each no_progress bytes taken text)
  pub whole : IfOk result (IsWholeFold each Made limit (old.left Library) after items text)

-- A library ends so, and this is made of cells of it with names of their own. Where its bytes are told, they are those that are
-- kept of them, and they end so.
pub record IsMadeOf (Made : List CellEntry → Type 0) (limit : ℕ) (left : Option (List ℕ)) (ending : Ending) : Type 0 where
  pub cells : List CellEntry
  pub made : Made cells
  pub own : AreDistinct (cell_names cells)
  pub told : IfSome left (λ bytes. (cells ≡ kept_cells no_progress (items_within limit bytes)) × (ending ≡ ending_of limit bytes))

-- After a call that goes over the cells of the library that is bound: some bytes of it were taken, and nothing else changed. The
-- answer is how it ends.
pub record FoldsCells (Made : List CellEntry → Type 0) (limit : ℕ) (old new : DeskState) (result : Result Ending Stop) :
    Type 0 where
  pub taken : ℕ
  pub state : new ≡ took old Library taken
  pub cells : IfOk result (IsMadeOf Made limit (old.left Library))
