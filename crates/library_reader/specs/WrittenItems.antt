-- What is written for the items of a library, one after another. This project's rules.
use Rattle.std.specs.Prelude.{ℕ, ◌+◌, ◌≤◌, List, [], ◌∷◌, take}
use Rattle.liberty_groups.specs.declared.tree.Group.{Group}
use Rattle.cell_cursor.specs.declared.item.LibraryItem.{LibraryItem}
use Rattle.cell_cursor.specs.declared.item.LibraryItem.TheVariants as item
use Rattle.cell_cursor.specs.Given.{closed_items, most_beyond}
use Rattle.run_outcome.specs.Written.{Written, nothing_written, joined, IsPart}
use Rattle.library_reader.specs.declared.progress.Progress.{Progress}
use Rattle.library_reader.specs.Progress.{after_item}

-- what is written for an item: for a cell as the first says, for a statement that names a file the second, for a time unit or a
-- type nothing
abbrev pub written_for : (Progress → Group → Written) → Written → Progress → LibraryItem → Written
written_for for_cell for_left_out p (item.Cell group) = for_cell p group
written_for for_cell for_left_out p (item.Unit line) = nothing_written
written_for for_cell for_left_out p (item.LeftOut at) = for_left_out
written_for for_cell for_left_out p (item.BusType group) = nothing_written

-- what is written for these items, one after another, as the first says of each
abbrev pub written_for_all : (Progress → LibraryItem → Written) → Progress → List LibraryItem → Written
written_for_all each p [] = nothing_written
written_for_all each p (one ∷ items) = joined (each p one) (written_for_all each (after_item p one) items)

-- So many bytes of a library were taken: these outputs hold all that is written for each cell whose closing brace has 65,536
-- bytes or more of them behind it, and for the items before it.
abbrev pub HoldsCells : (Progress → LibraryItem → Written) → Progress → List ℕ → ℕ → Written → Type 0
HoldsCells each before bytes taken text =
    (e : ℕ) → e + most_beyond ≤ taken → IsPart (written_for_all each before (closed_items (take e bytes))) text
