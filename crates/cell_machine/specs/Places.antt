-- The numbers of the entries of a list that pass a test, and the entries that have given numbers.
use Rattle.std.specs.Prelude.{ℕ, ◌+◌, ◌<◌, Bool, cond, List, [], ◌∷◌, ◌++◌, length, slice_get, slice_index_or, option_to_list}

-- the numbers of those that pass a test, ascending, where the first entry has the number k
abbrev pub places_from : {X : Type 0} → (X → Bool) → ℕ → List X → List ℕ
places_from t k [] = []
places_from t k (x ∷ xs) = cond (t x) (k ∷ places_from t (k + 1) xs) (places_from t (k + 1) xs)

-- the entries that have these numbers, where there are such
abbrev pub entries_at : {X : Type 0} → List X → List ℕ → List X
entries_at xs [] = []
entries_at xs (place ∷ places) = option_to_list (slice_get xs place) ++ entries_at xs places

-- each of these numbers is less than a count
abbrev pub AreBelow : ℕ → List ℕ → Type 0
AreBelow count places = (j : ℕ) → j < length places → slice_index_or places j 0 < count
