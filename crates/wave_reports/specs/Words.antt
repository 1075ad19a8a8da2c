-- The words of the program as words of a desk. This project's rule.
use Rattle.std.specs.Prelude.{ℕ, List, [], ◌∷◌, ◌++◌, codes}

-- the desk's command that reads a text and writes another, the words behind the program's name, and one that names no file
abbrev pub desk_words : List (List ℕ) → List (List ℕ)
desk_words given = codes "translate" ∷ given ++ codes "report_waves" ∷ []
