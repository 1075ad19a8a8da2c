-- The line of the report on the test cell of a cell (this project's format).
use Rattle.std.specs.Prelude.{ℕ, Bool, true, false, List, ◌++◌, codes, decimal, Option, Some, None}
use Rattle.scan_cells.specs.declared.answers.Agreement.{Agreement}
use Rattle.scan_cells.specs.declared.answers.Agreement.TheVariants.{Same, Differs}

-- a state as a digit
abbrev pub digit : Bool → List ℕ
digit false = codes "0"
digit true = codes "1"

-- where the cell and its test view differ first
unfoldable pub difference_text : ℕ → ℕ → ℕ → Bool → List ℕ
difference_text part before after state =
    codes "differs part " ++ (decimal part
    ++ (codes " before " ++ (decimal before ++ (codes " after " ++ (decimal after ++ (codes " state "
    ++ digit state))))))

-- what the line says: a test cell that gives no view is left out
abbrev pub agreement_text : Option Agreement → List ℕ
agreement_text None = codes "left-out"
agreement_text (Some Same) = codes "same"
agreement_text (Some (Differs part before after state of_cell of_view)) = difference_text part before after state

-- the line, with the number of the cell from 1
unfoldable pub test_line : ℕ → Option Agreement → List ℕ
test_line number agreement = codes "test " ++ (decimal number ++ (codes " " ++ (agreement_text agreement ++ codes "\n")))
