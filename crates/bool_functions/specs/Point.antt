-- Points: lists of values, one for each of some places, and their numbers.
use Rattle.std.specs.Prelude.{ℕ, ◌+◌, ◌*◌, ◌/◌, ◌%◌, ◌==◌, Bool, true, false, List, [], ◌∷◌, map, slice_index_or, slice_get, Some}
use Rattle.std.specs.Prelude.{length, ◌≡◌, if◌then◌else◌}
use Rattle.bool_functions.specs.declared.tree.Node.{Node}
use Rattle.bool_functions.specs.Tree.{value_by, value_of}

-- what a bit weighs
abbrev pub bit : Bool → ℕ
bit false = 0
bit true = 1

-- the number of a point, in which place i weighs 2 to the power i
abbrev pub number : List Bool → ℕ
number [] = 0
number (b ∷ bs) = bit b + 2 * number bs

-- the point that the values of all names make at some places
abbrev pub bits_at : List ℕ → List Bool → List Bool
bits_at places bits = map (λ i. slice_index_or bits i false) places

-- the value of a name at a point: the entry at the first place that is the name's, and 0 where there is none
abbrev pub entry_at : List ℕ → List Bool → ℕ → Bool
entry_at [] point i = false
entry_at (place ∷ places) [] i = false
entry_at (place ∷ places) (b ∷ bs) i = if place == i then b else entry_at places bs i

-- the value of a function at a point over these places
abbrev pub value_at : List ℕ → List Bool → Node → Bool
value_at places point f = value_by (entry_at places point) f

-- the same entry, from the number of the point
abbrev pub entry_of : List ℕ → ℕ → ℕ → Bool
entry_of [] point i = false
entry_of (place ∷ places) point i = if place == i then point % 2 == 1 else entry_of places (point / 2) i

-- each point over these places has the function's value there, at the point's number
abbrev pub IsTable : List ℕ → Node → List Bool → Type 0
IsTable places f values = (point : List Bool) → length point ≡ length places
    → slice_get values (number point) ≡ Some (value_at places point f)

-- whatever the values of all names are, the point that they make at these places has the function's value for them
abbrev pub HasValues : List ℕ → Node → List Bool → Type 0
HasValues places f values = (bits : List Bool) → slice_get values (number (bits_at places bits)) ≡ Some (value_of bits f)
