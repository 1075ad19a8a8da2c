-- The changes that a cell is run on. Each takes three numbers in turn: for the input, for its value, and for the time that passes
-- before it.
use Rattle.std.specs.Prelude.{ℕ, zero, suc, ◌+◌, ◌<◌, List, [], ◌∷◌, ◌++◌}
use Rattle.trit_cubes.specs.declared.trits.Trit.{Trit}
use Rattle.trit_cubes.specs.declared.trits.Trit.TheVariants.{Zero, One, Unknown}
use Rattle.cell_machine.specs.declared.changes.Change.{Change}
use Rattle.cell_machine.specs.History.{IsProperFrom}
use Rattle.selftest_cells.specs.Draws.{next, pick}

-- the last number that is taken for the changes before this one, where the numbers begin behind k
abbrev pub number_before : ℕ → ℕ → ℕ
number_before k zero = k
number_before k (suc i) = next (next (next (number_before k i)))

-- when the change before this one happens, in picoseconds; 0 before the first
abbrev pub time_before : ℕ → ℕ → ℕ
time_before k zero = 0
time_before k (suc i) = time_before k i + (1 + pick (number_before k (suc i)) 40)

-- 0, 1 and X
abbrev pub value_of : ℕ → Trit
value_of zero = Zero
value_of (suc zero) = One
value_of (suc (suc n)) = Unknown

-- the change with this number, from 0, of a cell with so many inputs
abbrev pub change_at : ℕ → ℕ → ℕ → Change
change_at k inputs i = record {
  at = time_before k (suc i);
  pin = pick (next (number_before k i)) inputs;
  to = value_of (pick (next (next (number_before k i))) 3);
}

-- the first so many changes
abbrev pub first_changes : ℕ → ℕ → ℕ → List Change
first_changes k inputs zero = []
first_changes k inputs (suc n) = first_changes k inputs n ++ change_at k inputs n ∷ []

-- how many changes each cell is run on
abbrev pub changes_each : ℕ
changes_each = 100

-- the changes of the cell with this number, where it has so many inputs
unfoldable pub changes_of : ℕ → ℕ → List Change
changes_of k inputs = first_changes k inputs changes_each

-- They are changes of its inputs at times that rise strictly.
abbrev pub ChangesAreProper : Type 0
ChangesAreProper = (k inputs : ℕ) → 0 < inputs → IsProperFrom inputs [] (changes_of k inputs)
