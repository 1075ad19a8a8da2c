-- Two lists walked together.
use Rattle.std.specs.Prelude.{List, [], ◌∷◌}

-- what a function gives of each two entries at one place, as far as both lists go
abbrev pub each : {A B C : Type 0} → (A → B → C) → List A → List B → List C
each f [] ys = []
each f (x ∷ xs) [] = []
each f (x ∷ xs) (y ∷ ys) = f x y ∷ each f xs ys
