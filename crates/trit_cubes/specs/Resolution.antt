-- What a function of points gives at a list of trits: its common value over all fillings.
use Rattle.std.specs.Prelude.{◌≡◌, ◌≢◌, ◌↔◌, ℕ, Bool, true, false, List, [], ◌∷◌}
use Rattle.trit_cubes.specs.declared.trits.Trit.{Trit}
use Rattle.trit_cubes.specs.declared.trits.Trit.TheVariants.{Zero, One, Unknown}
use Rattle.trit_cubes.specs.Filling.{IsFilling, number}

-- the value of both where they are equal, else unknown
abbrev pub agreed : Trit → Trit → Trit
agreed Zero Zero = Zero
agreed One One = One
agreed _ _ = Unknown

-- the value that the function gives on every filling of the list, else unknown (this project's rule for unknowns)
abbrev pub res : (List Bool → Trit) → List Trit → Trit
res f [] = f []
res f (Zero ∷ ts) = res (λ p. f (false ∷ p)) ts
res f (One ∷ ts) = res (λ p. f (true ∷ p)) ts
res f (Unknown ∷ ts) = agreed (res (λ p. f (false ∷ p)) ts) (res (λ p. f (true ∷ p)) ts)

-- a closure with these results gives, at the number of each filling of the list, the function's value there
pub record Computes (post : ℕ → Trit → Type 0) (g : List Bool → Trit) (ts : List Trit) : Type 0 where
  pub at_filling : (p : List Bool) → IsFilling ts p → (v : Trit) → post (number p) v → v ≡ g p

-- the resolution is 0 or 1 exactly where the function gives that value on every filling
abbrev pub ResIsCommonValue : Type 0
ResIsCommonValue =
    (f : List Bool → Trit) (ts : List Trit) (v : Trit)
    → v ≢ Unknown → (res f ts ≡ v) ↔ ((p : List Bool) → IsFilling ts p → f p ≡ v)
