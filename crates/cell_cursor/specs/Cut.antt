-- A part that is cut where a statement of the library ended.
use Rattle.std.specs.Prelude.{◌≡◌, ◌+◌, false, List, [], ◌∷◌, ◌++◌, drop, length}
use Rattle.liberty_text.specs.declared.token.Token.{Token}
use Rattle.liberty_groups.specs.Lexeme.{lexemes_behind, LieInside}
use Rattle.cell_cursor.specs.declared.item.LibraryItem.{LibraryItem}
use Rattle.cell_cursor.specs.declared.part.Place.{Place}
use Rattle.cell_cursor.specs.declared.part.Place.TheVariants as place
use Rattle.cell_cursor.specs.Braces.{has_outer, kinds_of}
use Rattle.cell_cursor.specs.Reached.{ReadsUpTo}
use Rattle.cell_cursor.specs.Scanned.{Scanned, AreScanned}

-- A part among the statements of the library is cut behind one of its tokens, with which a statement ended whatever follows, and
-- what is behind it is scanned anew. These are the items of the statements before the cut.
pub record IsCut (here : Place) (part rest : Scanned) (all : List LibraryItem) : Type 0 where
  pub before_last : List Token
  pub last : Token
  pub back : List Token
  pub inside_library : here ≡ place.Inside
  pub scanned : AreScanned part.bytes part.tokens part.mode
  pub lie_inside : LieInside part.bytes part.tokens
  pub split : part.tokens ≡ (before_last ++ last ∷ []) ++ back
  pub reach : ReadsUpTo [] (lexemes_behind part.before part.bytes part.tokens) all (length back)
  pub before : rest.before ≡ part.before + last.end
  pub bytes : rest.bytes ≡ drop last.end part.bytes
  pub inner : has_outer place.Inside (kinds_of rest.tokens) ≡ false
