-- How a line tells that something is refused. This project's format.
use Rattle.std.specs.Prelude.{ℕ, List, ◌++◌, codes, decimal}

-- the end of the line: the reason's number and word, and the offset of what meets it
unfoldable pub refusal_text : ℕ → List ℕ → ℕ → List ℕ
refusal_text number word at = codes " refused "
    ++ (decimal number ++ (codes " " ++ (word ++ (codes " at " ++ (decimal at ++ codes "\n")))))
