-- How much a cursor has still to do.
use Rattle.std.specs.Prelude.{◌≡◌, ℕ, ◌+◌, ◌-◌, ◌*◌, Bool, true, false, length}
use Rattle.cell_cursor.specs.declared.cursor.CellCursor.{CellCursor}
use Rattle.cell_cursor.specs.declared.seeking.Scanned.{Scanned}
use Rattle.cell_cursor.specs.declared.seeking.Scanned.TheVariants as scanned

-- a statement may have ended where scanning went no further
abbrev pub may_have_ended : Scanned → Bool
may_have_ended scanned.MayEnd = true
may_have_ended _ = false

-- all that was read is scanned
abbrev pub is_whole : Scanned → Bool
is_whole scanned.All = true
is_whole _ = false

-- how many bytes of the library are taken
abbrev pub taken_by : CellCursor → ℕ
taken_by c = c.part.before + (length c.part.bytes + length c.piece)

-- how many bytes of the library are scanned
abbrev pub scanned_by : CellCursor → ℕ
scanned_by c = c.part.before + length c.part.bytes

-- each byte up to the limit is read and scanned
unfoldable pub to_do : CellCursor → ℕ
to_do c = 2 * (c.limit - taken_by c) + length c.piece

-- what is left to read stays as it is: the limit, how many bytes are taken, and those that are not scanned yet
pub record ReadsNothing (old new : CellCursor) : Type 0 where
  pub limit : new.limit ≡ old.limit
  pub taken : taken_by new ≡ taken_by old
  pub piece : new.piece ≡ old.piece
