use Rattle.std.proofs.Common.{◌≡◌, ◌≤◌, length, drop, slice_set}
use Rattle.trit_cubes.specs.declared.trits.Trit.TheVariants.{Unknown}
use Rattle.trit_cubes.proofs.trying.freed.Given as goal

abbrev pub invariant-loop-left : goal.invariant-loop-left
invariant-loop-left l = (l.left ≤ length l.cube) × (length l.cube ≤ 10) × (l.freed ≡ drop l.left (slice_set l.cube l.i Unknown))

abbrev pub decreases-loop-left : goal.decreases-loop-left
decreases-loop-left l = l.left
