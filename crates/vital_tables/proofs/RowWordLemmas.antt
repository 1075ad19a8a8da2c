-- Which rows of VITAL's tables their words rule out.
use Rattle.std.proofs.Common.{◌≡◌, true, false, List, refl}
use Rattle.std.proofs.lemmas.Bool.{and_parts}
use Rattle.trit_cubes.specs.declared.trits.Trit.{Trit}
use Rattle.trit_cubes.specs.declared.trits.Trit.TheVariants.{Zero, One}
use Rattle.trit_cubes.specs.Filling.{same}
use Rattle.udp_tables.specs.declared.table.Level.TheVariants as level
use Rattle.udp_tables.specs.Tables.{columns_match}
use Rattle.udp_tables.specs.Primitive.{level_matches as matches_level}
use Rattle.udp_tables.specs.RowWords.{row_words, value_word, may_match}
use Rattle.udp_tables.proofs.RowWordLemmas.{Fits, columns-ruled_out}
use Rattle.vital_tables.specs.declared.table.Trits.{Trits}
use Rattle.vital_tables.specs.declared.table.VSymbol.{VSymbol}
use Rattle.vital_tables.specs.declared.table.VSymbol.TheVariants as symbol
use Rattle.vital_tables.specs.Symbols.{level_matches, symbol_matches, moved}
use Rattle.vital_tables.specs.RowWords.{level_of, level_now}

level-fits : Fits level_matches level_of
level-fits l old new h = h

rise-fits : (old new : Trit) → symbol_matches symbol.Rise old new ≡ true → matches_level level.One new ≡ true
rise-fits old new h = (and_parts (same Zero old) (same One new) h).1

fall-fits : (old new : Trit) → symbol_matches symbol.Fall old new ≡ true → matches_level level.Zero new ≡ true
fall-fits old new h = (and_parts (same One old) (same Zero new) h).1

symbol-fits : Fits symbol_matches level_now
symbol-fits (symbol.Level l) old new h = level-fits l old new h
symbol-fits symbol.Steady old new h = refl
symbol-fits symbol.Rise old new h = rise-fits old new h
symbol-fits symbol.Fall old new h = fall-fits old new h
symbol-fits symbol.To1 old new h = (and_parts (moved old new) (matches_level level.One new) h).1
symbol-fits symbol.To0 old new h = (and_parts (moved old new) (matches_level level.Zero new) h).1
symbol-fits symbol.From0 old new h = refl
symbol-fits symbol.From1 old new h = refl
symbol-fits symbol.Change old new h = refl

-- a row of a truth table is ruled out by its words
pub levels_ruled_out : (ls : List Trits) (os ts : List Trit)
    → may_match (row_words level_of ls) (value_word ts) ≡ false → columns_match level_matches ls os ts ≡ false
levels_ruled_out ls os ts h = columns-ruled_out level_matches level_of level-fits ls os ts h

-- a row of a state table is ruled out by its words
pub symbols_ruled_out : (ss : List VSymbol) (os ts : List Trit)
    → may_match (row_words level_now ss) (value_word ts) ≡ false → columns_match symbol_matches ss os ts ≡ false
symbols_ruled_out ss os ts h = columns-ruled_out symbol_matches level_now symbol-fits ss os ts h
