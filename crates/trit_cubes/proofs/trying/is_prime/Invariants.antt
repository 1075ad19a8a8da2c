use Rattle.std.proofs.Common.{◌≡◌, ℕ, ◌<◌, ◌||◌, not, true, slice_index_or, slice_set}
use Rattle.trit_cubes.specs.declared.trits.Trit.TheVariants.{Unknown}
use Rattle.trit_cubes.specs.Filling.{is_unknown}
use Rattle.trit_cubes.specs.Sets.{has}
use Rattle.trit_cubes.specs.Prime.{is_inside}
use Rattle.trit_cubes.proofs.trying.is_prime.Given as goal

abbrev pub invariant-loop-i : goal.invariant-loop-i
invariant-loop-i l =
    (is_inside (has l.set) l.cube ≡ true)
    × ((j : ℕ) → j < l.i → (is_unknown (slice_index_or l.cube j Unknown) || not (is_inside (has l.set) (slice_set l.cube j Unknown))) ≡ true)
