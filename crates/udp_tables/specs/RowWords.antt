-- Two words of a row of a table, in any language, by which most rows that do not match are known without a look at their entries:
-- which bits of the word of the values the row asks for, and what these have to be. A value takes two bits, the first column the
-- lowest; of the columns behind the first 32 the words say nothing. (This project's choice.)
use Rattle.std.specs.Prelude.{ℕ, ◌+◌, ◌*◌, Bool, nat_eq, bit_and, List, [], ◌∷◌, map, take}
use Rattle.trit_cubes.specs.declared.trits.Trit.{Trit}
use Rattle.trit_cubes.specs.declared.trits.Trit.TheVariants as trit
use Rattle.udp_tables.specs.declared.table.Level.{Level}
use Rattle.udp_tables.specs.declared.table.Level.TheVariants as level
use Rattle.udp_tables.specs.declared.row_words.RowWords.{RowWords}

-- the level that a value alone matches
abbrev pub level_of : Trit → Level
level_of trit.Zero = level.Zero
level_of trit.One = level.One
level_of trit.Unknown = level.Unknown

-- Which of the two bits of a value a level asks for, and what these bits are: 0 is `00`, 1 is `01` and x is `10`. `b` asks for
-- the one that tells x apart.
abbrev pub level_bits : Level → ℕ × ℕ
level_bits level.Zero = (3, 0)
level_bits level.One = (3, 1)
level_bits level.Unknown = (3, 2)
level_bits level.Any = (0, 0)
level_bits level.Binary = (2, 0)

abbrev pub asked_bits : Level → ℕ
asked_bits l = (level_bits l).0

abbrev pub value_bits : Level → ℕ
value_bits l = (level_bits l).1

-- the words of levels
abbrev pub words_of : List Level → RowWords
words_of [] = record { asked = 0; values = 0 }
words_of (l ∷ ls) =
    record { asked = asked_bits l + 4 * (words_of ls).asked; values = value_bits l + 4 * (words_of ls).values }

-- the words of entries that have these levels
abbrev pub row_words : {E : Type 0} → (E → Level) → List E → RowWords
row_words level_by entries = words_of (map level_by (take 32 entries))

-- the word of values
abbrev pub value_word : List Trit → ℕ
value_word ts = (row_words level_of ts).values

-- whether a row with these words may match where the values have this word
abbrev pub may_match : RowWords → ℕ → Bool
may_match words w = nat_eq (bit_and w words.asked) words.values
