-- How a library is read of which at most so many bytes count.
use Rattle.std.specs.Prelude.{◌≡◌, ℕ, nat_le, List, ◌++◌, take, length}
use Rattle.liberty_groups.specs.declared.read.End.{End}
use Rattle.liberty_groups.specs.Answer.{end_of_bytes}
use Rattle.cell_cursor.specs.declared.item.LibraryItem.{LibraryItem}
use Rattle.cell_cursor.specs.Items.{items_of_bytes}

-- a library ends as its bytes do or, where it has more than the limit, as the first of them do as the front of a file
unfoldable pub end_within : ℕ → List ℕ → End
end_within limit bytes = end_of_bytes (take limit bytes) (nat_le (length bytes) limit)

-- the items of a library, where it has more bytes than the limit, those of the first of them
unfoldable pub items_within : ℕ → List ℕ → List LibraryItem
items_within limit bytes = items_of_bytes (take limit bytes)

-- a library is read as these items and ends so
pub record ReadsSo (limit : ℕ) (bytes : List ℕ) (items : List LibraryItem) (end : End) : Type 0 where
  pub items_are : items ≡ items_within limit bytes
  pub end_is : end_within limit bytes ≡ end

-- these items are the first ones of a library that begins with these bytes, whatever follows
abbrev pub AreFirst : ℕ → List ℕ → List LibraryItem → Type 0
AreFirst limit bytes items = (more : List ℕ) → (others : List LibraryItem)
    × (items ++ others ≡ items_within limit (bytes ++ more))
