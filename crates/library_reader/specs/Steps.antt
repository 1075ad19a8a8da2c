-- What a cursor over a library comes to.
use Rattle.std.specs.Prelude.{◌≡◌, true}
use Rattle.text_io.specs.Desk.{DeskState}
use Rattle.cell_cursor.specs.declared.cursor.CellCursor.{CellCursor}
use Rattle.cell_cursor.specs.Stands.{is_ended, NothingLeft}

-- where the library ended nothing is left of it
abbrev pub IsAtEnd : CellCursor → DeskState → Type 0
IsAtEnd c s = is_ended c.answer ≡ true → NothingLeft s
