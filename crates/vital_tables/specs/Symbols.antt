-- What the symbols of a table match and what its rows give. (IEEE 1076.4-2000, VITAL table symbols and their matching.)
use Rattle.std.specs.Prelude.{Bool, not, ◌&&◌}
use Rattle.trit_cubes.specs.declared.trits.Trit.{Trit}
use Rattle.trit_cubes.specs.declared.trits.Trit.TheVariants.{Zero, One, Unknown}
use Rattle.trit_cubes.specs.Filling.{same}
use Rattle.udp_tables.specs.Primitive.{goes}
use Rattle.udp_tables.specs.Primitive.{level_matches as matches_level}
use Rattle.vital_tables.specs.RowWords.{level_of}
use Rattle.vital_tables.specs.declared.table.Trits.{Trits}
use Rattle.vital_tables.specs.declared.table.VSymbol.{VSymbol}
use Rattle.vital_tables.specs.declared.table.VSymbol.TheVariants as symbol
use Rattle.vital_tables.specs.declared.table.VNext.{VNext}
use Rattle.vital_tables.specs.declared.table.VNext.TheVariants as next

-- `'0'`, `'1'` and `'X'` match themselves, `'-'` all three, `'B'` 0 and 1
abbrev pub trits_match : Trits → Trit → Bool
trits_match l t = matches_level (level_of l) t

-- a level matches the value that a column has now
abbrev pub level_matches : Trits → Trit → Trit → Bool
level_matches level old new = trits_match level new

-- a column that had this value before has another one now
abbrev pub moved : Trit → Trit → Bool
moved old new = not (same old new)

-- `'S'` matches a column that keeps its value, `'/'` an edge from 0 to 1, `'\'` one from 1 to 0, `'P'` any edge to 1, `'N'` any
-- edge to 0, `'p'` any edge from 0, `'n'` any edge from 1, `'*'` any edge.
abbrev pub symbol_matches : VSymbol → Trit → Trit → Bool
symbol_matches (symbol.Level level) old new = trits_match level new
symbol_matches symbol.Steady old new = same old new
symbol_matches symbol.Rise old new = goes Zero One old new
symbol_matches symbol.Fall old new = goes One Zero old new
symbol_matches symbol.To1 old new = moved old new && same One new
symbol_matches symbol.To0 old new = moved old new && same Zero new
symbol_matches symbol.From0 old new = moved old new && same Zero old
symbol_matches symbol.From1 old new = moved old new && same One old
symbol_matches symbol.Change old new = moved old new

-- what a row gives in this state: `'S'` keeps it
abbrev pub next_of : Trit → VNext → Trit
next_of state next.Zero = Zero
next_of state next.One = One
next_of state next.Unknown = Unknown
next_of state next.Keep = state
