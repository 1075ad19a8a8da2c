-- How far a library has come.
use Rattle.std.specs.Prelude.{◌≡◌, ℕ, Bool, true, false, List, [], ◌++◌, length}
use Rattle.grammar_rules.specs.Reading.{read}
use Rattle.liberty_text.specs.Scanner.{scan_of}
use Rattle.liberty_groups.specs.Lexeme.{lexemes_of, lexemes_behind}
use Rattle.liberty_groups.specs.Answer.{is_last}
use Rattle.cell_cursor.specs.declared.item.LibraryItem.{LibraryItem}
use Rattle.cell_cursor.specs.declared.part.Place.{Place}
use Rattle.cell_cursor.specs.declared.part.Place.TheVariants as place
use Rattle.cell_cursor.specs.Scanned.{stop_behind}
use Rattle.cell_cursor.specs.Items.{rest_at, items_outcome}

abbrev pub is_start : Place → Bool
is_start place.Start = true
is_start _ = false

-- These bytes lead to this place of a library, behind these items, where those follow: they are read, with their offsets, from
-- this place on, and stop where they would alone.
pub record LeadTo (before tail : List ℕ) (here : Place) (items : List LibraryItem) : Type 0 where
  pub outcome : items_outcome (before ++ tail) ≡ read (rest_at here items) (lexemes_behind (length before) tail (scan_of tail).0)
  pub stop : (scan_of (before ++ tail)).1 ≡ stop_behind (length before) (scan_of tail).1
  pub several : is_start here ≡ false → is_last (lexemes_of (before ++ tail) (scan_of (before ++ tail)).0) ≡ false
  pub begins : is_start here ≡ true → before ≡ []
