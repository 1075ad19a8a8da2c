-- What the symbols of a primitive's table match and what its rows give, by IEEE 1364-2005, clause 8.
use Rattle.std.specs.Prelude.{◌≡◌, Bool, true, false, not, ◌&&◌, ◌||◌, IsTrue, All, List, length}
use Rattle.std.specs.List.{list_all}
use Rattle.trit_cubes.specs.declared.trits.Trit.{Trit}
use Rattle.trit_cubes.specs.declared.trits.Trit.TheVariants.{Zero, One, Unknown}
use Rattle.trit_cubes.specs.Filling.{is_unknown, same}
use Rattle.udp_tables.specs.declared.table.Level.{Level}
use Rattle.udp_tables.specs.declared.table.Level.TheVariants as level
use Rattle.udp_tables.specs.declared.table.Entry.{Entry}
use Rattle.udp_tables.specs.declared.table.Entry.TheVariants as entry
use Rattle.udp_tables.specs.declared.table.Next.{Next}
use Rattle.udp_tables.specs.declared.table.Next.TheVariants as next
use Rattle.udp_tables.specs.declared.table.UdpRow.{UdpRow}
use Rattle.udp_tables.specs.declared.table.Udp.{Udp}
use Rattle.udp_tables.specs.Tables.{first, columns_match}

-- `0`, `1` and `x` match themselves, `?` all three, `b` 0 and 1
abbrev pub level_matches : Level → Trit → Bool
level_matches level.Zero t = same Zero t
level_matches level.One t = same One t
level_matches level.Unknown t = same Unknown t
level_matches level.Any _ = true
level_matches level.Binary t = not (is_unknown t)

-- whether the input goes from this value to that one
abbrev pub goes : Trit → Trit → Trit → Trit → Bool
goes from to old new = same from old && same to new

-- A level matches the value after. `(vw)` matches a change from a value of v to a value of w, `*` any change, `r` 0 to 1,
-- `f` 1 to 0, `p` 0 to 1, 0 to x and x to 1, `n` 1 to 0, 1 to x and x to 0.
abbrev pub entry_matches : Entry → Trit → Trit → Bool
entry_matches (entry.Level l) old new = level_matches l new
entry_matches (entry.Pair v w) old new = not (same old new) && (level_matches v old && level_matches w new)
entry_matches entry.R old new = goes Zero One old new
entry_matches entry.F old new = goes One Zero old new
entry_matches entry.P old new = goes Zero One old new || goes Zero Unknown old new || goes Unknown One old new
entry_matches entry.N old new = goes One Zero old new || goes One Unknown old new || goes Unknown Zero old new
entry_matches entry.Star old new = not (same old new)

-- whether the entry is a level, and no change
abbrev pub is_level : Entry → Bool
is_level (entry.Level _) = true
is_level _ = false

-- what a row gives in this state: `-` keeps it
abbrev pub next_of : Trit → Next → Trit
next_of state next.Zero = Zero
next_of state next.One = One
next_of state next.Unknown = Unknown
next_of state next.Keep = state

-- whether the row of a combinational primitive matches these inputs
abbrev pub inputs_match : List Trit → UdpRow → Bool
inputs_match inputs row = columns_match entry_matches row.inputs inputs inputs

-- the output of a combinational primitive: that of the first row that matches, x without one
abbrev pub level_output : List UdpRow → List Trit → Trit
level_output rows inputs = first (inputs_match inputs) (λ row. next_of Unknown row.next) rows Unknown

-- a primitive with an entry for each input in each row, and no change entry
pub record IsCombinational (udp : Udp) : Type 0 where
  pub entries : All (λ row. length row.inputs ≡ length udp.inputs) udp.rows
  pub levels : All (λ row. IsTrue (list_all is_level row.inputs)) udp.rows
