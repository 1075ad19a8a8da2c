-- A step at changes of one place.
use Rattle.std.specs.Prelude.{ℕ, zero, suc, Bool, true, false, not, List, [], ◌∷◌}
use Rattle.trit_cubes.specs.declared.trits.Trit.{Trit}
use Rattle.trit_cubes.specs.Resolution.{agreed}
use Rattle.cell_machine.specs.Machine.{Step}

-- the point that differs from this one in this place alone; the point itself where it has no such place
abbrev pub turned : ℕ → List Bool → List Bool
turned p [] = []
turned zero (b ∷ point) = not b ∷ point
turned (suc p) (b ∷ point) = b ∷ turned p point

-- what a step gives from both states, unknown where it is not the same
abbrev pub both_steps : Step → List Bool → List Bool → Trit
both_steps step after before = agreed (step before after false) (step before after true)
