-- A list of names: its numbers, and what adding a name does.
use Rattle.std.specs.Prelude.{◌≡◌, ℕ, List, [], ◌∷◌, ◌++◌, length, position, bytes_eq, Option, None, Some}
use Rattle.std.specs.List.{IsDistinct}

-- the number of a name, which is its place in the list from 0
abbrev pub number_of : List (List ℕ) → List ℕ → Option ℕ
number_of names name = position (bytes_eq name) names

-- no name stands twice in the list
abbrev pub AreDistinct : List (List ℕ) → Type 0
AreDistinct names = IsDistinct bytes_eq names

-- what adding a name answers: its number where it is new and goes last, nothing where it is there and all stays
abbrev pub Adds : List (List ℕ) → List ℕ → Option ℕ → List (List ℕ) → Type 0
Adds old name (Some i) new = (number_of old name ≡ None) × (i ≡ length old) × (new ≡ old ++ name ∷ [])
Adds old name None new = ((number_of old name ≡ None) → ⊥) × (new ≡ old)
