-- How far a cursor has read behind the cells that it has given.
use Rattle.std.specs.Prelude.{◌≡◌, ℕ, ◌+◌, ◌<◌, ◌≤◌, List, [], ◌∷◌, ◌++◌, take, length}
use Rattle.cell_cursor.specs.declared.item.LibraryItem.{LibraryItem}
use Rattle.cell_cursor.specs.declared.item.LibraryItem.TheVariants as item
use Rattle.cell_cursor.specs.Items.{items_of_bytes}

-- an item before these, which stays where it is a cell, or has others behind it
abbrev pub up_to_a_cell : LibraryItem → List LibraryItem → List LibraryItem
up_to_a_cell (item.Cell group) items = item.Cell group ∷ items
up_to_a_cell one [] = []
up_to_a_cell one (next ∷ items) = one ∷ next ∷ items

-- The items up to the last cell, with it. A cell has ended with its closing brace, whatever follows; a time unit or a
-- statement that names a file may read otherwise where more bytes follow. A type counts for the cells behind it, and is
-- given with them.
abbrev pub up_to_last_cell : List LibraryItem → List LibraryItem
up_to_last_cell [] = []
up_to_last_cell (one ∷ items) = up_to_a_cell one (up_to_last_cell items)

-- The cells that have their closing brace in these bytes, with the types, the time units and the statements that name files
-- between them.
abbrev pub closed_items : List ℕ → List LibraryItem
closed_items bytes = up_to_last_cell (items_of_bytes bytes)

-- the second list begins with the first
abbrev pub IsFrontOf : List LibraryItem → List LibraryItem → Type 0
IsFrontOf front items = (others : List LibraryItem) × (front ++ others ≡ items)

-- the most bytes that are taken behind the closing brace of a cell before it is given (this project's rule)
abbrev pub most_beyond : ℕ
most_beyond = 65536

-- Of these bytes of a library these items were given: each cell among them whose closing brace has so many bytes or more
-- behind it, in order, with the items before it.
abbrev pub HasGiven : List ℕ → List LibraryItem → Type 0
HasGiven bytes items = (e : ℕ) → e + most_beyond ≤ length bytes → IsFrontOf (closed_items (take e bytes)) items

-- The cells that are closed in the first of these bytes, as far as they are fewer than so many, are among these items.
abbrev pub HasSeen : ℕ → List ℕ → List LibraryItem → Type 0
HasSeen n bytes items = (e : ℕ) → e < n → IsFrontOf (closed_items (take e bytes)) items
