-- Lists of trits by their numbers, in the order of all lists of one length: from the left, 0 before 1 before X.
use Rattle.std.specs.Prelude.{ℕ, zero, suc, ◌/◌, ◌%◌, ◌^◌, List, [], ◌∷◌}
use Rattle.trit_cubes.specs.declared.trits.Trit.{Trit}
use Rattle.trit_cubes.specs.declared.trits.Trit.TheVariants.{Zero, One, Unknown}

abbrev pub trit_numbered : ℕ → Trit
trit_numbered zero = Zero
trit_numbered (suc zero) = One
trit_numbered (suc (suc k)) = Unknown

abbrev pub list_numbered : ℕ → ℕ → List Trit
list_numbered zero k = []
list_numbered (suc n) k = trit_numbered (k / 3 ^ n) ∷ list_numbered n (k % 3 ^ n)

-- the value with a number among those from which the register of the checks changes
abbrev pub trit_before : ℕ → Trit
trit_before zero = Unknown
trit_before (suc zero) = Zero
trit_before (suc (suc k)) = One
