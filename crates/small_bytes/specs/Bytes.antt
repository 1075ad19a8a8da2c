-- The bytes of a short text, and its mark.
use Rattle.std.specs.Prelude.{ℕ, List, take, drop, Bool, true, false}
use Rattle.small_bytes.specs.declared.bytes.HeldBytes.{HeldBytes}
use Rattle.small_bytes.specs.declared.bytes.HeldBytes.TheVariants.{InPlace, Full, MarkedInPlace, MarkedFull, Name, Row, WideRow, Long, Part}

abbrev pub held_bytes : HeldBytes → List ℕ
held_bytes (InPlace bytes) = bytes
held_bytes (Full bytes) = bytes
held_bytes (MarkedInPlace bytes) = bytes
held_bytes (MarkedFull bytes) = bytes
held_bytes (Name mark bytes) = bytes
held_bytes (Row mark bytes) = bytes
held_bytes (WideRow mark bytes) = bytes
held_bytes (Long mark bytes) = bytes
held_bytes (Part mark count before shared) = take count (drop before shared)

abbrev pub is_marked : HeldBytes → Bool
is_marked (InPlace bytes) = false
is_marked (Full bytes) = false
is_marked (MarkedInPlace bytes) = true
is_marked (MarkedFull bytes) = true
is_marked (Name mark bytes) = mark
is_marked (Row mark bytes) = mark
is_marked (WideRow mark bytes) = mark
is_marked (Long mark bytes) = mark
is_marked (Part mark count before shared) = mark
