-- The keys of a primitive's rows: which rows they rule out, and which of them are kept.
use Rattle.std.proofs.Common.{◌≡◌, ℕ, zero, suc, ◌<◌, true, false, ◌&&◌, List, [], ◌∷◌, map, length, get_or, slice_get, Some}
use Rattle.std.proofs.Common.{refl, sym, ◌∙◌, ap}
use Rattle.std.proofs.lemmas.Bool.{and_parts}
use Rattle.std.proofs.lemmas.Option.{slice_get-get_or}
use Rattle.trit_cubes.specs.declared.trits.Trit.{Trit}
use Rattle.trit_cubes.specs.declared.trits.Trit.TheVariants.{Zero, One}
use Rattle.trit_cubes.specs.Filling.{same}
use Rattle.udp_tables.specs.declared.table.Level.TheVariants as level
use Rattle.udp_tables.specs.declared.table.Entry.{Entry}
use Rattle.udp_tables.specs.declared.table.Entry.TheVariants as entry
use Rattle.udp_tables.specs.Tables.{columns_match, AreKept}
use Rattle.udp_tables.specs.Primitive.{level_matches, entry_matches}
use Rattle.udp_tables.specs.RowWords.{row_words, value_word, may_match}
use Rattle.udp_tables.specs.RowKeys.{level_after}
use Rattle.udp_tables.proofs.RowWordLemmas.{Fits, columns-ruled_out}

-- an input goes to the second of two values
goes-one : (old new : Trit) → entry_matches entry.R old new ≡ true → level_matches level.One new ≡ true
goes-one old new h = (and_parts (same Zero old) (same One new) h).1

goes-zero : (old new : Trit) → entry_matches entry.F old new ≡ true → level_matches level.Zero new ≡ true
goes-zero old new h = (and_parts (same One old) (same Zero new) h).1

after-fits : Fits entry_matches level_after
after-fits (entry.Level l) old new h = h
after-fits (entry.Pair v w) old new h =
    (and_parts (level_matches v old) (level_matches w new) (and_parts _ (level_matches v old && level_matches w new) h).1).1
after-fits entry.R old new h = goes-one old new h
after-fits entry.F old new h = goes-zero old new h
after-fits entry.P old new h = refl
after-fits entry.N old new h = refl
after-fits entry.Star old new h = refl

-- a row is ruled out by its words
pub entries_ruled_out : (es : List Entry) (os ts : List Trit)
    → may_match (row_words level_after es) (value_word ts) ≡ false → columns_match entry_matches es os ts ≡ false
entries_ruled_out es os ts h = columns-ruled_out entry_matches level_after after-fits es os ts h

-- no keys at all
pub none_kept : {R K : Type 0} (key : R → K) (rows : List R) → AreKept key [] rows
none_kept key rows = record { each_is = λ i k row e. absurd cc }

key-of : {R K : Type 0} (key : R → K) (rows : List R) (i : ℕ) (k : K) (row : R)
    → slice_get (map key rows) i ≡ Some k → slice_get rows i ≡ Some row → k ≡ key row
key-of key [] i k row h e = absurd cc
key-of key (r ∷ rows) zero k row h e = let same : r ≡ row = cc in let given : key r ≡ k = cc in sym given ∙ ap key same
key-of key (r ∷ rows) (suc i) k row h e = key-of key rows i k row h e

-- the keys of all rows
pub all_kept : {R K : Type 0} (key : R → K) (rows : List R) → AreKept key (map key rows) rows
all_kept key rows = record { each_is = key-of key rows }

-- the key that is kept with the number of a row is that of the row
pub kept_key : {R K : Type 0} (key : R → K) (keys : List K) (rows given : List R) (i : ℕ) (row : R)
    → AreKept key keys rows → given ≡ rows → i < length given → row ≡ get_or given i row
    → (k : K) → slice_get keys i ≡ Some k → k ≡ key row
kept_key key keys rows given i row kept same inside is k found =
    kept.each_is i k row found (ap (λ xs. slice_get xs i) (sym same) ∙ slice_get-get_or given i row inside ∙ ap Some (sym is))
