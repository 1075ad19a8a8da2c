-- The names of a function in ascending order.
use Rattle.std.specs.Prelude.{ℕ, ◌==◌, nat_lt, List, [], ◌∷◌, if◌then◌else◌}
use Rattle.bool_functions.specs.declared.tree.Node.{Node}
use Rattle.bool_functions.specs.Tree.{names_of}

-- a number put at its place in an ascending list, unless it is there
abbrev pub inserted : ℕ → List ℕ → List ℕ
inserted i [] = i ∷ []
inserted i (j ∷ js) = if i == j then j ∷ js else (if nat_lt i j then i ∷ (j ∷ js) else j ∷ inserted i js)

-- the same of several numbers, one after another
abbrev pub insert_all : List ℕ → List ℕ → List ℕ
insert_all js [] = js
insert_all js (i ∷ is) = insert_all (inserted i js) is

-- the support of a function: the names that are written in it, each once, in ascending order
abbrev pub support_of : Node → List ℕ
support_of f = insert_all [] (names_of f)
