-- Numbers of cubes, by which the other cube of a pair is found without going through all (this project's choice).
use Rattle.std.specs.Prelude.{◌≡◌, ◌≤◌, ◌<◌, ◌+◌, ◌*◌, ℕ, List, [], ◌∷◌, length, map, nat_eq, slice_index}
use Rattle.std.specs.List.{list_any}
use Rattle.trit_cubes.specs.declared.trits.Trit.{Trit}
use Rattle.trit_cubes.specs.declared.trits.Trit.TheVariants.{Zero, One, Unknown}

abbrev pub digit : Trit → ℕ
digit Zero = 1
digit One = 2
digit Unknown = 3

-- The number of a cube: its places as digits to the base 4, the first with the least weight. No digit is 0, so two cubes of one
-- number are equal.
abbrev pub number_of : List Trit → ℕ
number_of [] = 0
number_of (t ∷ ts) = digit t + 4 * number_of ts

-- each number is at most those behind it
abbrev pub Ascends : List ℕ → Type 0
Ascends numbers = (i j : ℕ) → i ≤ j → j < length numbers → slice_index numbers i ≤ slice_index numbers j

-- the numbers of these cubes, ascending
pub record AreNumbers (cubes : List (List Trit)) (numbers : List ℕ) : Type 0 where
  pub same : (x : ℕ) → list_any (nat_eq x) numbers ≡ list_any (nat_eq x) (map number_of cubes)
  pub ascend : Ascends numbers
