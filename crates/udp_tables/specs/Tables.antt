-- Tables of rows of any language: the first row that matches decides.
use Rattle.std.specs.Prelude.{◌≡◌, ℕ, Bool, true, false, ◌&&◌, List, [], ◌∷◌, ◌++◌, map, slice_get, Some, if◌then◌else◌}
use Rattle.trit_cubes.specs.declared.trits.Trit.{Trit}
use Rattle.trit_cubes.specs.declared.trits.Trit.TheVariants.{Zero, One}

-- the value of the first row that is hit, the other value where none is
abbrev pub first : {R V : Type 0} → (R → Bool) → (R → V) → List R → V → V
first hit value [] otherwise = otherwise
first hit value (row ∷ rows) otherwise = if hit row then value row else first hit value rows otherwise

-- whether each column's entry matches the values that the column has before and after; lists of other lengths match
-- nothing
abbrev pub columns_match : {E : Type 0} → (E → Trit → Trit → Bool) → List E → List Trit → List Trit → Bool
columns_match matches [] [] [] = true
columns_match matches (e ∷ es) (old ∷ olds) (new ∷ news) = matches e old new && columns_match matches es olds news
columns_match matches _ _ _ = false

-- the rows that give 1, one for each cube of the first list, and then the rows that give 0, of the second
abbrev pub value_rows : {R : Type 0} → (Trit → List Trit → R) → List (List Trit) → List (List Trit) → List R
value_rows make ones zeros = map (make One) ones ++ map (make Zero) zeros

-- the rows, or the one row that stands where there is none
abbrev pub or_row : {R : Type 0} → R → List R → List R
or_row alone [] = alone ∷ []
or_row alone (row ∷ rows) = row ∷ rows

-- each of these keys is that of the row with its number; some rows may have none
pub record AreKept {R K : Type 0} (key : R → K) (keys : List K) (rows : List R) : Type 0 where
  pub each_is : (i : ℕ) (k : K) (row : R) → slice_get keys i ≡ Some k → slice_get rows i ≡ Some row → k ≡ key row
