-- Words in groups by their first letters.
use Rattle.std.specs.Prelude.{ℕ, ◌+◌, Bool, true, false, ◌&&◌, nat_eq, List, [], ◌∷◌, ◌++◌, map}
use Rattle.std.specs.List.{list_all}

-- the word begins with this letter
abbrev pub begins : ℕ → List ℕ → Bool
begins letter [] = false
begins letter (b ∷ bs) = nat_eq b letter

-- the words of each group begin with its letter, where the groups have this letter and those behind it
abbrev pub begin_from : {G W : Type 0} → List G → (G → List W) → (W → List ℕ) → ℕ → Bool
begin_from [] words bytes letter = true
begin_from (group ∷ groups) words bytes letter = list_all (begins letter) (map bytes (words group))
    && begin_from groups words bytes (letter + 1)

-- the words of all groups
abbrev pub joined : {G W : Type 0} → List G → (G → List W) → (W → List ℕ) → List (List ℕ)
joined [] words bytes = []
joined (group ∷ groups) words bytes = map bytes (words group) ++ joined groups words bytes
