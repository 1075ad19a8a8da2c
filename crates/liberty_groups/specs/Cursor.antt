-- What a cursor over tokens shows, and what it keeps.
use Rattle.std.specs.Prelude.{◌≡◌, ◌<◌, ◌+◌, ◌^◌, List, length, IfSome}
use Rattle.liberty_groups.specs.declared.cursor.Cursor.TheInside.{Inside}
use Rattle.liberty_groups.specs.Lexeme.{Lexeme, lexemes_behind, LieInside}

abbrev pub lexemes_left : Inside → List Lexeme
lexemes_left c = lexemes_behind c.before c.text.now c.left

-- the tokens lie inside the text, the offsets of all of it are machine numbers, and the bytes that texts may share are its own
pub record IsInside (c : Inside) : Type 0 where
  pub inside : LieInside c.text.now c.left
  pub fits : c.before + length c.text.now < 2 ^ 64
  pub same : IfSome c.shared (λ shared. shared.now ≡ c.text.now)
