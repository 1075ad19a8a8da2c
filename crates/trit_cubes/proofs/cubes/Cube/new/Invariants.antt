use Rattle.std.proofs.Common.{◌≡◌, ◌≤◌, length, drop}
use Rattle.trit_cubes.proofs.cubes.Cube.new.Given as goal

abbrev pub invariant-loop-left : goal.invariant-loop-left
invariant-loop-left l = (l.left ≤ length l.places) × (length l.places ≤ 10) × (l.cube ≡ drop l.left l.places)

abbrev pub decreases-loop-left : goal.decreases-loop-left
decreases-loop-left l = l.left
