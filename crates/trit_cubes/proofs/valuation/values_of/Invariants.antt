use Rattle.std.proofs.Common.{◌≡◌, ℕ, ◌<◌, Bool, List, vec_len, slice_index_or}
use Rattle.std.specs.Fn.{FnReturnsAt}
use Rattle.trit_cubes.specs.declared.trits.Trit.{Trit}
use Rattle.trit_cubes.specs.declared.trits.Trit.TheVariants.{Unknown}
use Rattle.trit_cubes.specs.Sets.{Gives, point_of}
use Rattle.trit_cubes.proofs.valuation.values_of.Given as goal

abbrev pub invariant-loop-number : goal.invariant-loop-number
invariant-loop-number g l =
    (vec_len l.values ≡ l.number)
    × ((f : List Bool → Trit) → Gives (λ p t. FnReturnsAt g.F.Fn l.function p t) l.places f
    → (j : ℕ) → j < l.number → slice_index_or l.values.items j Unknown ≡ f (point_of l.places j))
