-- Sets of points, as tests of a point.
use Rattle.std.specs.Prelude.{◌≡◌, ◌==◌, ℕ, zero, suc, ◌/◌, ◌%◌, ◌^◌, Bool, true, false, ◌&&◌, List, [], ◌∷◌, length}
use Rattle.std.specs.Prelude.{slice_index_or}
use Rattle.trit_cubes.specs.declared.trits.Trit.{Trit}
use Rattle.trit_cubes.specs.declared.trits.Trit.TheVariants.{Unknown}
use Rattle.trit_cubes.specs.Filling.{number, same}

-- whether the table, whose entry k stands for the point with the number k, has this point
abbrev pub has : List Bool → List Bool → Bool
has table p = slice_index_or table (number p) false

-- the first n places of the point with this number
abbrev pub point_of : ℕ → ℕ → List Bool
point_of zero k = []
point_of (suc n) k = (k % 2 == 1) ∷ point_of n (k / 2)

-- the points in both sets
abbrev pub common : (List Bool → Bool) → (List Bool → Bool) → List Bool → Bool
common f g p = f p && g p

-- the set with one more place in front: the first set where that place is 0, the second where it is 1
abbrev pub joined : (List Bool → Bool) → (List Bool → Bool) → List Bool → Bool
joined f g [] = false
joined f g (false ∷ p) = f p
joined f g (true ∷ p) = g p

-- the points at which the function gives this value
abbrev pub gives : Trit → (List Bool → Trit) → List Bool → Bool
gives v f p = same v (f p)

-- the list has an entry for each point of n places, each the function's value there
pub record AreValuesOf (n : ℕ) (f : List Bool → Trit) (values : List Trit) : Type 0 where
  pub entries : length values ≡ 2 ^ n
  pub values_at : (p : List Bool) → length p ≡ n → slice_index_or values (number p) Unknown ≡ f p

-- a closure that returns this gives the function's value at each point of n places
pub record Gives (returns : List Bool → Trit → Type 0) (n : ℕ) (f : List Bool → Trit) : Type 0 where
  pub at_point : (p : List Bool) → length p ≡ n → (t : Trit) → returns p t → t ≡ f p
