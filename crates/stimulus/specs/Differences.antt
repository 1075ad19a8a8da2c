-- Where the traces of two simulators differ. What a line shows is compared: each output's value and delay, and which checks
-- report. (This project's rule.)
use Rattle.std.specs.Prelude.{◌≡◌, ◌↔◌, ℕ, ◌+◌, Bool, true, false, not, ◌&&◌, nat_eq, List, [], ◌∷◌, Option, Some, None}
use Rattle.std.specs.Prelude.{if◌then◌else◌}
use Rattle.cell_machine.specs.declared.changes.Change.{Change}
use Rattle.stimulus.specs.declared.drives.Drive.{Drive}
use Rattle.stimulus.specs.DriveLines.{same_drive, DriveLine, lines_along, DriveMachine, IsSized}

abbrev pub same_values : List Drive → List Drive → Bool
same_values [] [] = true
same_values (x ∷ xs) (y ∷ ys) = same_drive x y && same_values xs ys
same_values _ _ = false

abbrev pub same_delay : Option ℕ → Option ℕ → Bool
same_delay None None = true
same_delay (Some m) (Some n) = nat_eq m n
same_delay _ _ = false

abbrev pub same_delays : List (Option ℕ) → List (Option ℕ) → Bool
same_delays [] [] = true
same_delays (x ∷ xs) (y ∷ ys) = same_delay x y && same_delays xs ys
same_delays _ _ = false

-- the same of two facts
abbrev pub same_fact : Bool → Bool → Bool
same_fact true b = b
same_fact false b = not b

-- the checks that report; one that is not there reports nothing
abbrev pub same_reports : List Bool → List Bool → Bool
same_reports [] [] = true
same_reports (x ∷ xs) [] = same_fact x false && same_reports xs []
same_reports [] (y ∷ ys) = same_fact false y && same_reports [] ys
same_reports (x ∷ xs) (y ∷ ys) = same_fact x y && same_reports xs ys

-- two lines show the same
abbrev pub same_line : DriveLine → DriveLine → Bool
same_line one other = same_values one.values other.values
    && (same_delays one.delays other.delays && same_reports one.reports other.reports)

-- the number of the first two lines that show something else, where the first ones have this number
abbrev pub difference_from : ℕ → List DriveLine → List DriveLine → Option ℕ
difference_from n (one ∷ more) (other ∷ others) = if same_line one other then difference_from (n + 1) more others else Some n
difference_from n _ _ = None

-- The number of the first change at which two traces on the same changes differ, from 1, and 0 for the start.
abbrev pub first_difference : List DriveLine → List DriveLine → Option ℕ
first_difference = difference_from 0

-- where as many checks are run, no difference tells that the traces are equal
abbrev pub NoDifferenceIsEqual : Type 0
NoDifferenceIsEqual =
    (m n : DriveMachine) (cs : List Change) → IsSized m → IsSized n → m.outputs ≡ n.outputs → m.checks ≡ n.checks
    → (first_difference (lines_along m.line cs) (lines_along n.line cs) ≡ None) ↔ (lines_along m.line cs ≡ lines_along n.line cs)
