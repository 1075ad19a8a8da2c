-- The words of the rows of VITAL's tables, by which most rows that do not match are known without a look at their symbols. (This
-- project's choice.)
use Rattle.udp_tables.specs.declared.table.Level.{Level}
use Rattle.udp_tables.specs.declared.table.Level.TheVariants as level
use Rattle.udp_tables.specs.declared.row_words.RowWords.{RowWords}
use Rattle.udp_tables.specs.RowWords.{row_words}
use Rattle.vital_tables.specs.declared.table.Trits.{Trits}
use Rattle.vital_tables.specs.declared.table.Trits.TheVariants as trits
use Rattle.vital_tables.specs.declared.table.VSymbol.{VSymbol}
use Rattle.vital_tables.specs.declared.table.VSymbol.TheVariants as symbol
use Rattle.vital_tables.specs.declared.table.TruthRow.{TruthRow}
use Rattle.vital_tables.specs.declared.table.VStateRow.{VStateRow}

-- the level of a primitive that stands for the same values
abbrev pub level_of : Trits → Level
level_of trits.Zero = level.Zero
level_of trits.One = level.One
level_of trits.Unknown = level.Unknown
level_of trits.Any = level.Any
level_of _ = level.Binary

-- the level that a column has now wherever the symbol matches it
abbrev pub level_now : VSymbol → Level
level_now (symbol.Level l) = level_of l
level_now symbol.Steady = level.Any
level_now symbol.Rise = level.One
level_now symbol.Fall = level.Zero
level_now symbol.To1 = level.One
level_now symbol.To0 = level.Zero
level_now symbol.From0 = level.Any
level_now symbol.From1 = level.Any
level_now symbol.Change = level.Any

-- the words of a row of a truth table
abbrev pub truth_words : TruthRow → RowWords
truth_words row = row_words level_of row.inputs

-- the words of a row of a state table
abbrev pub state_words : VStateRow → RowWords
state_words row = row_words level_now row.inputs
