use Rattle.std.proofs.Common.{◌≡◌, ◌≤◌, length, take}
use Rattle.trit_cubes.proofs.trying.places_of.Given as goal

abbrev pub invariant-loop-i : goal.invariant-loop-i
invariant-loop-i l = (length l.cube ≤ 10) × (length l.places ≡ 10) × (take l.i l.places ≡ take l.i l.cube)
