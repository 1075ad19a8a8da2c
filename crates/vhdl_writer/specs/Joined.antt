-- Texts of the items of a list, one behind the other.
use Rattle.std.specs.Prelude.{ℕ, ◌+◌, nat_eq, if◌then◌else◌, List, [], ◌∷◌, ◌++◌}

-- the texts of these items, which are numbered from this number on
abbrev pub numbered_texts : {X : Type 0} → (ℕ → X → List ℕ) → ℕ → List X → List ℕ
numbered_texts f n [] = []
numbered_texts f n (x ∷ xs) = f n x ++ numbered_texts f (n + 1) xs

-- what stands before the item with this number: nothing before the first one, and else what separates items
abbrev pub apart_text : List ℕ → ℕ → List ℕ
apart_text separator n = if nat_eq n 1 then [] else separator
