-- How far a library is read one item after another.
use Rattle.std.specs.Prelude.{◌≡◌, ℕ, ◌≤◌, List, take, drop, length, Option, IfSome}
use Rattle.std.specs.Option.{option_map}
use Rattle.bool_functions.specs.NameList.{AreDistinct}
use Rattle.text_io.specs.declared.slots.InSlot.TheVariants.{Library}
use Rattle.text_io.specs.Desk.{DeskState, took}
use Rattle.run_outcome.specs.Written.{Written, wrote_all}
use Rattle.cell_cursor.specs.declared.item.LibraryItem.{LibraryItem}
use Rattle.cell_cursor.specs.declared.cursor.CellCursor.{CellCursor}
use Rattle.cell_cursor.specs.Stands.{Stands}
use Rattle.library_reader.specs.declared.progress.Progress.{Progress}
use Rattle.library_reader.specs.Progress.{no_progress, progress_after}
use Rattle.library_reader.specs.Steps.{IsAtEnd}
use Rattle.library_reader.specs.LibraryCells.{CellEntry, cell_names}
use Rattle.library_reader.specs.KeptCells.{kept_cells}
use Rattle.library_reader.specs.WrittenItems.{written_for_all}

-- these are the first of the bytes that are left, where the desk tells them
abbrev pub IsFront : Option (List ℕ) → List ℕ → Type 0
IsFront left taken = IfSome left (λ all. (taken ≡ take (length taken) all) × (length taken ≤ length all))

-- Of a library these items were given, and what counts then is this: the cursor has taken the first of the bytes that were left
-- of the library, and the others are left of it now.
pub record Follows (limit : ℕ) (left : Option (List ℕ)) (now : DeskState) (before after : Progress) (cursor : CellCursor) :
    Type 0 where
  pub taken : List ℕ
  pub items : List LibraryItem
  pub stands : Stands cursor taken items
  pub limit_is : cursor.limit ≡ limit
  pub at_end : IsAtEnd cursor now
  pub told : IsFront left taken
  pub rest : now.left Library ≡ option_map (drop (length taken)) left
  pub progress : after ≡ progress_after before items

-- So many items of the library were given: the desk is as after reading the bytes that the cursor has taken and writing all that
-- is written for the items, and this is made of the cells that are kept of them.
pub record HasFolded (each : Progress → LibraryItem → Written) (Made : List CellEntry → Type 0) (limit : ℕ) (base now : DeskState)
    (progress : Progress) (count : ℕ) (cursor : CellCursor) : Type 0 where
  pub follows : Follows limit (base.left Library) now no_progress progress cursor
  pub counted : length follows.items ≡ count
  pub state : now ≡ wrote_all (took base Library (length follows.taken)) (written_for_all each no_progress follows.items)
  pub made : Made (kept_cells no_progress follows.items)
  pub names : cell_names (kept_cells no_progress follows.items) ≡ progress.names
  pub own : AreDistinct progress.names
