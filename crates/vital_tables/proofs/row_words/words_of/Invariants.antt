use Rattle.std.proofs.Common.{◌≡◌, ◌++◌, map, drop}
use Rattle.vital_tables.proofs.row_words.words_of.Given as goal

-- the words so far and those of the rows that are left are the words of all rows
abbrev pub invariant-loop-row : goal.invariant-loop-row
invariant-loop-row g l = l.words ++ map g.R.TableRow.words (drop l.row-index l.rows) ≡ map g.R.TableRow.words l.rows
