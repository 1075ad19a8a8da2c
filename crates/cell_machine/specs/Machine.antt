-- A group's step over values that may be unknown. The step itself is any function of the inputs before, the inputs
-- after, and the state.
use Rattle.std.specs.Prelude.{ℕ, zero, suc, Bool, true, false, not, List, [], ◌∷◌, ◌++◌}
use Rattle.trit_cubes.specs.declared.trits.Trit.{Trit}
use Rattle.trit_cubes.specs.declared.trits.Trit.TheVariants.{Zero, One, Unknown}
use Rattle.trit_cubes.specs.Resolution.{agreed, res}

-- a step: the next state, given the inputs before and after a change and the state
abbrev pub Step : Type 0
Step = List Bool → List Bool → Bool → Trit

-- the list with x at place p
abbrev pub insert : {X : Type 0} → ℕ → X → List X → List X
insert zero x xs = x ∷ xs
insert (suc p) x [] = x ∷ []
insert (suc p) x (y ∷ ys) = y ∷ insert p x ys

-- the list less its place p
abbrev pub without : {X : Type 0} → ℕ → List X → List X
without p [] = []
without zero (x ∷ xs) = xs
without (suc p) (x ∷ xs) = x ∷ without p xs

-- all but the last entry
abbrev pub init : {X : Type 0} → List X → List X
init [] = []
init (x ∷ []) = []
init (x ∷ y ∷ ys) = x ∷ init (y ∷ ys)

-- the last entry, or d where there is none
abbrev pub last : {X : Type 0} → X → List X → X
last d [] = d
last d (x ∷ []) = x
last d (x ∷ y ∷ ys) = last d (y ∷ ys)

-- The step at a change of the input at place p, at a point of its value before, its value after, the other inputs in
-- order and the state.
abbrev pub edge_value : Step → ℕ → List Bool → Trit
edge_value step p [] = Unknown
edge_value step p (old ∷ []) = Unknown
edge_value step p (old ∷ new ∷ rest) = step (insert p old (init rest)) (insert p new (init rest)) (last false rest)

-- The machine step: at a change of the input at place p from a to b, the value that the step gives on every filling of
-- a, b, the other inputs and the state, else X. The other inputs have one filling each, the same before and after
-- (this project's rule for unknowns).
abbrev pub machine_step : Step → ℕ → Trit → Trit → List Trit → Trit → Trit
machine_step step p a b others s = res (edge_value step p) (a ∷ b ∷ others ++ s ∷ [])

-- the common value of a function at a point and at each point that differs from it in one place
abbrev pub around : (List Bool → Trit) → List Bool → Trit
around g [] = g []
around g (b ∷ p) = agreed (around (λ q. g (b ∷ q)) p) (g (not b ∷ p))

-- The value to which a point is forced: that which the step gives there for both states and from the point itself and
-- each point that differs from it in one place, else X (this project's rule for a violation).
abbrev pub forced_at : Step → List Bool → Trit
forced_at step point = around (λ before. agreed (step before point false) (step before point true)) point

-- The value to which inputs are forced: that to which each filling is, else X.
abbrev pub forced : Step → List Trit → Trit
forced step inputs = res (forced_at step) inputs

-- the common value of a function at the fillings of one trit, else X
abbrev pub over : (Bool → Trit) → Trit → Trit
over f Zero = f false
over f One = f true
over f Unknown = agreed (f false) (f true)
