-- Lists of which each entry fits the one at its place in another list.
use Rattle.std.specs.Prelude.{⊤, List, [], ◌∷◌}

-- each entry of the second list fits the one at its place in the first, and both have as many
abbrev pub FitEach : {X Y : Type 0} → (X → Y → Type 0) → List X → List Y → Type 0
FitEach fits [] [] = ⊤
FitEach fits [] (y ∷ ys) = ⊥
FitEach fits (x ∷ xs) [] = ⊥
FitEach fits (x ∷ xs) (y ∷ ys) = fits x y × FitEach fits xs ys
