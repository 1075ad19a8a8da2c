-- The names of a primitive's ports (this project's choice): `q`, and `i1`, `i2` and so on.
use Rattle.std.specs.Prelude.{ℕ, zero, suc, List, [], ◌∷◌, ◌++◌, codes, decimal}

-- the output
abbrev pub output_name : List ℕ
output_name = codes "q"

-- the input with this number from 1
abbrev pub input_name : ℕ → List ℕ
input_name k = codes "i" ++ decimal k

-- the first n inputs
abbrev pub input_names : ℕ → List (List ℕ)
input_names zero = []
input_names (suc n) = input_names n ++ input_name (suc n) ∷ []
