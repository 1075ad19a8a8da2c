-- Bytes that were read and are not scanned yet.
use Rattle.std.specs.Prelude.{◌≡◌, ℕ, ◌≤◌, List, take, drop, length}
use Rattle.cell_cursor.specs.declared.piece.Piece.TheInside.{Inside}

-- the most bytes that are read at once
abbrev pub most_at_once : ℕ
most_at_once = 16384

-- the bytes of a piece that are not taken out yet
abbrev pub unread : Inside → List ℕ
unread p = drop p.next (take p.end p.bytes)

-- what is not taken out yet lies in the room, which is of this many bytes
pub record IsInside (p : Inside) : Type 0 where
  pub order : p.next ≤ p.end
  pub within : p.end ≤ length p.bytes
  pub room : length p.bytes ≡ most_at_once
