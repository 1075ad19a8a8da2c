-- The cells that are kept of a library. This project's rules.
use Rattle.std.specs.Prelude.{◌≡◌, ℕ, List, [], ◌∷◌, ◌++◌, Option, Some, None, is_some, Result, Ok, Err, IfOk, IfSome, Vec}
use Rattle.std.specs.Prelude.{if◌then◌else◌}
use Rattle.bool_functions.specs.NameList.{number_of}
use Rattle.liberty_groups.specs.declared.tree.Group.{Group}
use Rattle.text_io.specs.declared.slots.InSlot.TheVariants.{Library}
use Rattle.text_io.specs.Desk.{DeskState, took}
use Rattle.cell_cursor.specs.declared.item.LibraryItem.{LibraryItem}
use Rattle.cell_cursor.specs.declared.item.LibraryItem.TheVariants as item
use Rattle.cell_cursor.specs.Ends.{items_within}
use Rattle.cell_attributes.specs.Groups.{cell_name}
use Rattle.cell_reader.specs.declared.refusal.Refusal.{Refusal}
use Rattle.library_reader.specs.declared.library_cell.LibraryCell.{LibraryCell}
use Rattle.library_reader.specs.LibraryCells.{CellEntry, Accepted, Refused, all_described}
use Rattle.text_io.specs.declared.stop.Stop.{Stop}
use Rattle.library_reader.specs.declared.progress.Progress.{Progress}
use Rattle.library_reader.specs.declared.ending.Ending.{Ending}
use Rattle.library_reader.specs.declared.ending.Ending.TheVariants as ending
use Rattle.library_reader.specs.declared.ending.NotWhole.{NotWhole}
use Rattle.library_reader.specs.declared.ending.NotWhole.TheVariants as not_whole
use Rattle.library_reader.specs.Progress.{no_progress, next_refusal, next_data, next_entity, after_item}
use Rattle.library_reader.specs.Endings.{ending_of}

-- of a cell that is accepted its data and the name of its entity are kept, of one that is refused its name and why
abbrev pub kept_by : Progress → Group → Option Refusal → CellEntry
kept_by p group None = Accepted (next_data p group) (next_entity p group)
kept_by p group (Some refusal) = Refused (cell_name group) refusal

-- what is kept of the next cell
abbrev pub next_entry : Progress → Group → CellEntry
next_entry p group = kept_by p group (next_refusal p group)

-- what this makes of the group of a cell, and nothing of another item
abbrev pub of_cell : {T : Type 0} → (Group → List T) → LibraryItem → List T
of_cell made (item.Cell group) = made group
of_cell made (item.Unit line) = []
of_cell made (item.LeftOut at) = []
of_cell made (item.BusType group) = []

-- A cell is kept where no cell before it has its name: a second one of a name is refused whatever it says, and the name tells
-- the first one.
abbrev pub item_kept : Progress → LibraryItem → List CellEntry
item_kept p = of_cell (λ group. if is_some (number_of p.names (cell_name group)) then [] else next_entry p group ∷ [])

-- what is kept of these items, in order
abbrev pub kept_cells : Progress → List LibraryItem → List CellEntry
kept_cells p [] = []
kept_cells p (one ∷ items) = item_kept p one ++ kept_cells (after_item p one) items

-- the cells of a library that ends so, where it is whole
abbrev pub cells_by : {T : Type 0} → Ending → T → Result T NotWhole
cells_by ending.Whole cells = Ok cells
cells_by (ending.Fault fault) cells = Err (not_whole.Fault fault)
cells_by ending.TooLong cells = Err not_whole.TooLong

-- the cells of a library, or why they are not kept
abbrev pub library_cells_within : ℕ → List ℕ → Result (List CellEntry) NotWhole
library_cells_within limit bytes = cells_by (ending_of limit bytes) (kept_cells no_progress (items_within limit bytes))

-- an answer of cells as definitions speak of them
abbrev pub entries_of : {A : Type 0} → Result (Vec LibraryCell A) NotWhole → Result (List CellEntry) NotWhole
entries_of (Ok cells) = Ok (all_described cells.items)
entries_of (Err why) = Err why

-- After a call that reads the cells of the library that is bound: some bytes of it were taken, and nothing else changed. Where
-- the desk tells what is left of it, the answer is what these bytes come to.
pub record ReadsCells {A : Type 0} (limit : ℕ) (old new : DeskState) (result : Result (Result (Vec LibraryCell A) NotWhole) Stop)
    : Type 0 where
  pub taken : ℕ
  pub state : new ≡ took old Library taken
  pub cells : IfOk result (λ answer. IfSome (old.left Library) (λ bytes. entries_of answer ≡ library_cells_within limit bytes))
